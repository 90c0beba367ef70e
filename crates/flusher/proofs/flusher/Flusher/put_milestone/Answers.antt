use Rattle.std.proofs.Common.{refl, sym, subst, ◌∙◌}
use Rattle.flusher.specs.Flushers.{MayCommit}
use Rattle.flusher.proofs.Holdings.{goes_put, keeps_by}
use Rattle.flusher.proofs.Lasting.{surely_kept_up}
use Rattle.flusher.proofs.flusher.Flusher.put_milestone.Goals as goal

pub returns-clause-keeps : goal.returns-clause-keeps
returns-clause-keeps g c =
    let e = c.put_milestone.ensures in
    keeps_by (goes_put c.args.self.now.store c.put_milestone.new.self c.args.composed.now c.put_milestone.result e.faults e.any_moment e.done e.kept) e.state refl refl refl refl

pub invariant_of-self : goal.invariant_of-self
invariant_of-self g c =
    let same = c.put_milestone.ensures.state in
    record {
      kept = same ∙ c.args.self.now.kept;
      few = c.args.self.now.few;
      fits = λ run is. subst (λ s. MayCommit s run.commands c.args.self.now.publisher.unpublished) (sym same) (c.args.self.now.fits run is);
      placed = c.args.self.now.placed;
      lasts = surely_kept_up c.args.self.now.begun c.args.self.now.opened.value c.args.self.now.publisher c.args.self.now.waiting c.args.self.now.store c.put_milestone.new.self
          c.args.self.now.kept (goes_put c.args.self.now.store c.put_milestone.new.self c.args.composed.now c.put_milestone.result c.put_milestone.ensures.faults c.put_milestone.ensures.any_moment c.put_milestone.ensures.done c.put_milestone.ensures.kept) c.args.self.now.lasts;
    }
