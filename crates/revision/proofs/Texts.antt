-- Texts that can be spelled.
use Rattle.std.proofs.Common.{◌≡◌, ℕ, ◌^◌, ◌<◌, true, List, length, sym, ap, subst}
use Rattle.std.specs.Str.{is_utf8}
use Rattle.std.proofs.lemmas.Str.{IsUtf8-from_is_utf8}
use Rattle.utf16.specs.Units.{units_of, utf8_of}
use Rattle.utf16.proofs.CallerLemmas.{utf8_of-units_of}
use Rattle.revision.specs.Spellable.{IsText}

-- the code units of a text
pub IsText-units_of : (text : List ℕ) → length text < 2 ^ 32 → is_utf8 text ≡ true → IsText (units_of text)
IsText-units_of text short valid =
    let same : utf8_of (units_of text) ≡ text = utf8_of-units_of text (IsUtf8-from_is_utf8 text valid) in
    record {
      back = ap units_of same;
      valid = subst (λ (t : List ℕ). is_utf8 t ≡ true) (sym same) valid;
      short = subst (λ (t : List ℕ). length t < 2 ^ 32) (sym same) short;
    }
