use Rattle.std.proofs.Common.{◌≡◌, ℕ, ◌∙◌, ap, false}
use Rattle.std.proofs.lemmas.Bool.{false_from_ne_true, both_ways}
use Rattle.attributes.specs.Map.{empty}
use Rattle.attributes.specs.Attributes.{Changes, same_changes-Decides}
use Rattle.delta.specs.Operation.{is_plain, retain}
use Rattle.delta.specs.Kind.{operation_of}
use Rattle.delta.proofs.part.Part.plain_len.Goals as goal

not_plain : (n : ℕ) (c : Changes) → ¬ (c ≡ empty) → is_plain (retain n c) ≡ false
not_plain n c some = false_from_ne_true _ (λ e. some ((same_changes-Decides c empty).0 e))

pub returns-else-is_empty : goal.returns-else-is_empty
returns-else-is_empty c =
    ap (λ o. is_plain (operation_of o)) c.in-Retain.is
    ∙ not_plain c.in-Retain.len c.in-Retain.change.now (λ e. both_ways _ c.if-is_empty.false (c.is_empty.ensures.1 e))
