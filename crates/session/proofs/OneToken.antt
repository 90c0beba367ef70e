-- Values of one token.
use Rattle.std.proofs.Common.{◌≡◌, ℕ, ◌<◌, ◌^◌, List, ◌∷◌, Some, Bool, false, refl, ap, ◌∙◌, arith}
use Rattle.std.proofs.lemmas.Bool.Decides.{nat_tests}
use Rattle.std.specs.Prelude.{slice_index, ◌≢◌}
use Rattle.fast_float.specs.Text.{scan, digits_of, IsInteger}
use Rattle.json.specs.Token as token
use Rattle.json.specs.Token.{Token}
use Rattle.json.proofs.Grammar.{value_is}
use Rattle.serde_json.specs.Data.{unsigned, string, number, boolean, null}
use Rattle.serde_json.specs.Read.{of_json, converted, number_of, number_from}
use Rattle.session.specs.steps.Tokened.{Reads}

pub reads_string : (s : List ℕ) (left : List Token) → Reads 0 (token.string s ∷ left) (string s) left
reads_string s left nests deep = ap (converted of_json) (value_is nests _)

pub reads_boolean : (b : Bool) (left : List Token) → Reads 0 (token.boolean b ∷ left) (boolean b) left
reads_boolean b left nests deep = ap (converted of_json) (value_is nests _)

pub reads_null : (left : List Token) → Reads 0 (token.null ∷ left) null left
reads_null left nests deep = ap (converted of_json) (value_is nests _)

pub reads_number : (s : List ℕ) (n : ℕ) (left : List Token) → number_of s ≡ Some (unsigned n) → Reads 0 (token.number s ∷ left) (number (unsigned n)) left
reads_number s n left is nests deep = ap (converted of_json) (value_is nests _) ∙ rw is refl

pub number_of-plain : (s : List ℕ) → slice_index s 0 ≢ 45 → number_of s ≡ number_from false (scan s)
unfolding number_of
number_of-plain s plain = grind (arith, nat_tests)

pub number_of-digits : (s : List ℕ) (n : ℕ) → slice_index s 0 ≢ 45 → IsInteger (scan s) → digits_of (scan s) < 2 ^ 64 → n ≡ digits_of (scan s) → number_of s ≡ Some (unsigned n)
number_of-digits s n plain integer small is = rw (number_of-plain s plain, is) (grind (arith, nat_tests))
