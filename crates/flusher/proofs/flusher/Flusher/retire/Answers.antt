use Rattle.std.proofs.Common.{refl, sym, subst, ◌∙◌}
use Rattle.flusher.specs.Flushers.{MayCommit}
use Rattle.flusher.proofs.Holdings.{keeps_by}
use Rattle.flusher.proofs.Lasting.{surely_kept_up}
use Rattle.flusher.proofs.Retirement.{retired_taken, why_of_retirement, unretired}
use Rattle.flusher.proofs.flusher.Flusher.retire.Goals as goal

pub returns-clause-keeps : goal.returns-clause-keeps
returns-clause-keeps g c =
    let e = c.retire.ensures in
    keeps_by e.goes e.stays.state refl refl refl refl

pub returns-clause-retired : goal.returns-clause-retired
returns-clause-retired g c = retired_taken c.args.self.now.store c.retire.new.self c.retire.result c.retire.ensures.retired

pub returns-clause-needed : goal.returns-clause-needed
returns-clause-needed g c =
    let e = c.retire.ensures in
    why_of_retirement c.args.self.now.store c.retire.new.self c.retire.result e.faults e.needed

pub returns-clause-untouched : goal.returns-clause-untouched
returns-clause-untouched g c = unretired c.args.self.now.store c.retire.new.self c.retire.result c.retire.ensures.left

pub returns-clause-only : goal.returns-clause-only
returns-clause-only g c = c.retire.ensures.needed.only

pub invariant_of-self : goal.invariant_of-self
invariant_of-self g c =
    let same = c.retire.ensures.stays.state in
    record {
      kept = same ∙ c.args.self.now.kept;
      few = c.args.self.now.few;
      fits = λ run is. subst (λ s. MayCommit s run.commands c.args.self.now.publisher.unpublished) (sym same) (c.args.self.now.fits run is);
      placed = c.args.self.now.placed;
      lasts = surely_kept_up c.args.self.now.begun c.args.self.now.opened.value c.args.self.now.publisher c.args.self.now.waiting c.args.self.now.store c.retire.new.self
          c.args.self.now.kept c.retire.ensures.goes c.args.self.now.lasts;
    }
