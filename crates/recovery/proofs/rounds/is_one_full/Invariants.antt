use Rattle.std.proofs.Common.{◌≡◌, ◌<◌, ℕ, Some, get_or}
use Rattle.std.specs.Prelude.{slice_get}
use Rattle.milestone.specs.Cells.{HasClosed, revisions_of}
use Rattle.milestone.specs.declared.cells.Cells.{Cells}
use Rattle.recovery.specs.declared.group.Member.{Member}
use Rattle.recovery.proofs.rounds.is_one_full.Given as goal

abbrev pub invariant-loop-member : goal.invariant-loop-member
invariant-loop-member l =
    (k : ℕ) (m : Member) → k < l.member-index → get_or l.members k m ≡ m → (one : Cells) → slice_get l.cells m.document ≡ Some one → HasClosed (revisions_of one)
