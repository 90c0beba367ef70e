-- Normal form, operation by operation.
use Rattle.std.proofs.Common.{◌≡◌, ℕ, zero, suc, ◌+◌, ◌<◌, Bool, true, false, ◌&&◌, not, ltb, List, [], ◌∷◌, length, drop, refl, sym, ap, ◌∙◌, add-one, arith}
use Rattle.delta.specs.Operation.{Operation, op_len, is_plain}
use Rattle.delta.specs.Normal.{is_built, ends_plain, may_precede}
use Rattle.journal.specs.steps.DeltaReading.{is_normal, begins_normal}

last_again : (a b : Bool) → ((a && b) && true) ≡ (a && b)
last_again true true = refl
last_again true false = refl
last_again false b = refl

regrouped : (a b c d : Bool) → ((a && (b && c)) && d) ≡ ((a && b) && (c && d))
regrouped true true c d = refl
regrouped true false c d = refl
regrouped false b c d = refl

-- operations are in normal form where the first may stand and the others are
is_normal-cons : (op : Operation) (ops : List Operation) → is_normal (op ∷ ops) ≡ (begins_normal (op ∷ ops) && is_normal ops)
is_normal-cons op [] = sym (last_again (ltb 0 (op_len op)) (not (is_plain op)))
is_normal-cons op (next ∷ ops) = regrouped (ltb 0 (op_len op)) (may_precede op next) (is_built (next ∷ ops)) (not (ends_plain (next ∷ ops)))

is_normal-drop : (ops : List Operation) (i : ℕ) → i < length ops → is_normal (drop i ops) ≡ (begins_normal (drop i ops) && is_normal (drop (suc i) ops))
is_normal-drop [] i lt = absurd (omega arith)
is_normal-drop (op ∷ ops) zero lt = is_normal-cons op ops
is_normal-drop (op ∷ ops) (suc i) lt = is_normal-drop ops i (omega arith)

-- one more may stand
pub normal_more : (ops : List Operation) (i : ℕ) (whole : Bool) → i < length ops → whole ≡ is_normal (drop i ops) → begins_normal (drop i ops) ≡ true → whole ≡ is_normal (drop (i + 1) ops)
normal_more ops i whole lt so_far stands = rw add-one (so_far ∙ is_normal-drop ops i lt ∙ ap (λ b. b && is_normal (drop (suc i) ops)) stands)
