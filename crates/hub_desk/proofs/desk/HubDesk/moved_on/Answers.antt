use Rattle.std.proofs.Common.{Option, IfSome, sym, subst, ◌∙◌}
use Rattle.revision.specs.Moved.{LateEdit, IsLateIn, IsMovedIn}
use Rattle.revision.specs.State.{State}
use Rattle.revision.proofs.CallerLemmas.{late_is_moved}
use Rattle.hub_desk.proofs.desk.HubDesk.moved_on.Goals as goal

-- what is late in the state that was lent is moved in it, and that state is what the token's batches make
pub of-requires : goal.of-requires
of-requires g c =
    let answer = c.in-Ok.ensures.lent.answer in
    let read = answer.2 in
    let late = subst (λ (o : Option LateEdit). IfSome o (λ l. IsLateIn read.0.now l)) c.in_ok-late.was read.1 in
    subst (λ (s : State). IsMovedIn s c.in-Ok-moved.moved) (read.2 ∙ answer.1)
    (subst (IsMovedIn read.0.now) (sym c.in-Ok-moved.ensures.moved) (late_is_moved read.0.now c.in_ok-late.late late))
