use Rattle.std.proofs.Common.{◌≡◌, ℕ, ◌∙◌, List, sym, ap, ⊎_elim}
use Rattle.std.proofs.lemmas.Bool.{cases_Bool, both_ways, false_from_ne_true}
use Rattle.std.specs.Str.{IsUtf8, bytes_eq}
use Rattle.std.specs.Cmp.Lexicographic.{bytes_decides}
use Rattle.utf16.specs.Units.{units_of}
use Rattle.utf16.proofs.CallerLemmas.{same_units}
use Rattle.delta.proofs.op.same_text.Goals as goal

bytes_eq-units_of : (a b : List ℕ) → IsUtf8 a → IsUtf8 b → bytes_eq a b ≡ bytes_eq (units_of a) (units_of b)
bytes_eq-units_of a b valid_a valid_b =
    ⊎_elim
    (λ e. e ∙ sym ((bytes_decides (units_of a) (units_of b)).1 (ap units_of ((bytes_decides a b).0 e))))
    (λ e. e ∙ sym (false_from_ne_true _ (λ t. both_ways _ e ((bytes_decides a b).1 (same_units a b valid_a valid_b ((bytes_decides (units_of a) (units_of b)).0 t))))))
    (cases_Bool (bytes_eq a b))

pub returns : goal.returns
returns c = c.eq.ensures ∙ bytes_eq-units_of c.args.text.now c.args.other.now c.utf8.text c.utf8.other
