-- The lengths of spelled numbers and texts.
use Rattle.std.proofs.Common.{◌≡◌, ℕ, ◌+◌, List, length, refl, arith}
use Rattle.std.specs.Int.{w16, w32, w64}
use Rattle.std.proofs.lemmas.List.{length-append}
use Rattle.journal.specs.Spelling.{number, text16, text32}

pub length-number16 : (n : ℕ) → length (number w16 n) ≡ 2
unfolding number
length-number16 n = refl

pub length-number32 : (n : ℕ) → length (number w32 n) ≡ 4
unfolding number
length-number32 n = refl

pub length-number64 : (n : ℕ) → length (number w64 n) ≡ 8
unfolding number
length-number64 n = refl

pub length-text16 : (text : List ℕ) → length (text16 text) ≡ 2 + length text
unfolding text16
length-text16 text = omega (arith, length-append (number w16 (length text)) text, length-number16 (length text))

pub length-text32 : (text : List ℕ) → length (text32 text) ≡ 4 + length text
unfolding text32
length-text32 text = omega (arith, length-append (number w32 (length text)) text, length-number32 (length text))
