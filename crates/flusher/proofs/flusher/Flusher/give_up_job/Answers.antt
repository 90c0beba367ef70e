use Rattle.std.proofs.Common.{refl, sym, subst, ◌∙◌}
use Rattle.recovery.proofs.CallerLemmas.{goes_still, found_as, found_open}
use Rattle.flusher.specs.Flushers.{MayCommit}
use Rattle.flusher.proofs.Holdings.{keeps_by}
use Rattle.flusher.proofs.Lasting.{surely_kept_up}
use Rattle.flusher.proofs.flusher.Flusher.give_up_job.Goals as goal

pub returns-clause-keeps : goal.returns-clause-keeps
returns-clause-keeps g c =
    let e = c.give_up_job.ensures in
    keeps_by (goes_still e.same.device e.same.failed e.open (λ is_open. found_as _ _ (found_open c.args.self.now.store is_open))) e.same.state refl refl refl refl

pub invariant_of-self : goal.invariant_of-self
invariant_of-self g c =
    let same = c.give_up_job.ensures.same.state in
    record {
      kept = same ∙ c.args.self.now.kept;
      few = c.args.self.now.few;
      fits = λ run is. subst (λ s. MayCommit s run.commands c.args.self.now.publisher.unpublished) (sym same) (c.args.self.now.fits run is);
      placed = c.args.self.now.placed;
      lasts = surely_kept_up c.args.self.now.begun c.args.self.now.opened.value c.args.self.now.publisher c.args.self.now.waiting c.args.self.now.store c.give_up_job.new.self
          c.args.self.now.kept (goes_still c.give_up_job.ensures.same.device c.give_up_job.ensures.same.failed c.give_up_job.ensures.open (λ is_open. found_as _ _ (found_open c.args.self.now.store is_open))) c.args.self.now.lasts;
    }
