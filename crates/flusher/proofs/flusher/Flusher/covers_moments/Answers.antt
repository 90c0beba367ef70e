use Rattle.std.proofs.Common.{◌∙◌, ◌++◌, length, refl, sym, ap, subst}
use Rattle.revision.specs.State.{fold}
use Rattle.recovery.specs.Found.{commands_of}
use Rattle.recovery.specs.Open.{state_of}
use Rattle.view.specs.Published.{Published}
use Rattle.flusher.specs.Flushers.{IsOneAtMost, MayCommit}
use Rattle.flusher.specs.Lasting.{Lasts, Surely}
use Rattle.flusher.proofs.flusher.Flusher.covers_moments.Goals as goal

pub invariant_of-self : goal.invariant_of-self
invariant_of-self g c =
    let before = c.args.self.now in
    let same = c.covers_moments.ensures.same in
    record {
      kept = before.kept ∙ ap (λ (p : Published). fold before.begun (commands_of (p.told ++ p.unpublished))) (sym same);
      few = subst (λ (p : Published). IsOneAtMost p.unpublished) (sym same) before.few;
      fits = λ run is. subst (λ (p : Published). MayCommit (state_of before.store) run.commands p.unpublished) (sym same) (before.fits run is);
      placed = λ run is. before.placed run is ∙ ap (λ (p : Published). length (commands_of p.told)) (sym same);
      lasts = subst (λ (p : Published). Surely (Lasts before.begun before.opened.value p before.waiting before.store)) (sym same) before.lasts;
    }

pub returns-clause-batches : goal.returns-clause-batches
returns-clause-batches g c =
    let same = c.covers_moments.ensures.same in
    record { told = ap (λ (p : Published). p.told) same; committed = ap (λ (p : Published). p.unpublished) same; waiting = refl; opened = refl }
