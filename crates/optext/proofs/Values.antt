-- The value of a text.
use Rattle.std.proofs.Common.{◌≡◌, List, ℕ, Bool, true, false, cond, None, refl, ap}
use Rattle.std.specs.Str.{IsUtf8, is_utf8}
use Rattle.std.proofs.lemmas.Str.{is_utf8-from_IsUtf8, IsUtf8-from_is_utf8}
use Rattle.serde_json.specs.Read.{read}
use Rattle.optext.specs.Json.{value_of}

pub value_of-utf8 : (text : List ℕ) → IsUtf8 text → value_of text ≡ read text
value_of-utf8 text valid = ap (λ b. cond b (read text) None) (is_utf8-from_IsUtf8 text valid)

-- a text that is no UTF-8, or from which nothing is read, has no value
pub value_of-none : (text : List ℕ) → (IsUtf8 text → read text ≡ None) → value_of text ≡ None
value_of-none text none = by_test (is_utf8 text) (λ valid. none (IsUtf8-from_is_utf8 text valid)) where
  by_test : (b : Bool) → (b ≡ true → read text ≡ None) → cond b (read text) None ≡ None
  by_test true h = h refl
  by_test false h = refl
