use Rattle.std.proofs.Common.{refl, sym, subst, ◌∙◌}
use Rattle.flusher.specs.Flushers.{MayCommit}
use Rattle.flusher.proofs.Holdings.{keeps_by}
use Rattle.flusher.proofs.Lasting.{surely_kept_up}
use Rattle.flusher.proofs.flusher.Flusher.put_milestones.Goals as goal

pub returns-clause-keeps : goal.returns-clause-keeps
returns-clause-keeps g c = keeps_by c.put_milestones.ensures.goes c.put_milestones.ensures.keeps.state refl refl refl refl

pub invariant_of-self : goal.invariant_of-self
invariant_of-self g c =
    let same = c.put_milestones.ensures.keeps.state in
    record {
      kept = same ∙ c.args.self.now.kept;
      few = c.args.self.now.few;
      fits = λ run is. subst (λ s. MayCommit s run.commands c.args.self.now.publisher.unpublished) (sym same) (c.args.self.now.fits run is);
      placed = c.args.self.now.placed;
      lasts = surely_kept_up c.args.self.now.begun c.args.self.now.opened.value c.args.self.now.publisher c.args.self.now.waiting c.args.self.now.store c.put_milestones.new.self
          c.args.self.now.kept c.put_milestones.ensures.goes c.args.self.now.lasts;
    }
