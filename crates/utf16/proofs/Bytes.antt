-- The bytes of a character, by how many there are.
use Rattle.std.proofs.Common.{◌≡◌, ℕ, ◌+◌, ◌/◌, ◌%◌, ◌<◌, ◌≤◌, [], ◌∷◌, refl, arith}
use Rattle.std.proofs.lemmas.Bool.{lt-ltb, le-ltb}
use Rattle.std.specs.Char.{encode_utf8}

pub in_one : (c : ℕ) → c < 0x80 → encode_utf8 c ≡ c ∷ []
unfolding encode_utf8
in_one c small = rw (lt-ltb c 0x80 small) refl

pub in_two : (c : ℕ) → 0x80 ≤ c → c < 0x800 → encode_utf8 c ≡ (192 + c / 64) ∷ (128 + c % 64) ∷ []
unfolding encode_utf8
in_two c large small = rw (le-ltb c 0x80 large, lt-ltb c 0x800 small) refl

pub in_three : (c : ℕ) → 0x800 ≤ c → c < 0x1_0000
    → encode_utf8 c ≡ (224 + c / 4096) ∷ (128 + (c / 64) % 64) ∷ (128 + c % 64) ∷ []
unfolding encode_utf8
in_three c large small = rw (le-ltb c 0x80 (omega arith), le-ltb c 0x800 large, lt-ltb c 0x1_0000 small) refl

pub in_four : (c : ℕ) → 0x1_0000 ≤ c
    → encode_utf8 c ≡ (240 + c / 262144) ∷ (128 + (c / 4096) % 64) ∷ (128 + (c / 64) % 64) ∷ (128 + c % 64) ∷ []
unfolding encode_utf8
in_four c large = rw (le-ltb c 0x80 (omega arith), le-ltb c 0x800 (omega arith), le-ltb c 0x1_0000 large) refl
