-- The spelling of a content has at most twice as many bytes as the document weighs, and four.
use Rattle.std.proofs.Common.{ℕ, ◌*◌, ◌≤◌, List, [], ◌∷◌, length, sum_by, length-append, ◌&&◌, Some, Option, arith}
use Rattle.std.specs.Char.{encode_utf8}
use Rattle.std.specs.Char.Utf16.{utf16_chars, utf16_lossy_chars, lone_unit_char, surrogate_pair_char, is_high_surrogate, is_low_surrogate}
use Rattle.std.specs.Str.{encode_utf8_all}
use Rattle.std.proofs.lemmas.Bool.{cond_both}
use Rattle.std.proofs.lemmas.List.{length-map}
use Rattle.std.proofs.lemmas.List.Sums.{sum_by-cons}
use Rattle.std.proofs.lemmas.Str.{length-encode, len_utf8_bounds}
use Rattle.std.specs.Prelude.{unwrap_or}
use Rattle.utf16.specs.Units.{utf8_of}
use Rattle.delta.specs.Operation.{Operation, insert_text, insert_embed, retain, delete}
use Rattle.revision.specs.Width.{operation_width}
use Rattle.milestone.specs.CellSpelling.{inserts_of}
use Rattle.milestone.specs.Law.{LightContent}
use Rattle.milestone.proofs.Sizes.{light, light_inserts}

-- a text of so many units has no more characters
fewer : (units : List ℕ) → length (utf16_chars units) ≤ length units
unfolding utf16_chars
fewer [] = omega arith
fewer (u ∷ []) = omega arith
fewer (u ∷ v ∷ units) =
    cond_both (is_high_surrogate u && is_low_surrogate v) (Some (surrogate_pair_char u v) ∷ utf16_chars units) (lone_unit_char u ∷ utf16_chars (v ∷ units))
    (λ (l : List (Option ℕ)). length l ≤ length (u ∷ v ∷ units))
    (λ e. omega (arith, fewer units)) (λ e. omega (arith, fewer (v ∷ units)))

-- a character has at most four bytes
four_bytes : (cs : List ℕ) → length (encode_utf8_all cs) ≤ 4 * length cs
four_bytes [] = omega arith
four_bytes (c ∷ cs) = omega (arith, length-append (encode_utf8 c) (encode_utf8_all cs), length-encode c, (len_utf8_bounds c).1, four_bytes cs)

wide_text : (units : List ℕ) → length (utf8_of units) ≤ 4 * length units
wide_text units =
    omega (arith, four_bytes (utf16_lossy_chars units), length-map (utf16_chars units) (λ (o : Option ℕ). unwrap_or o 0xFFFD), fewer units)

twice : (op : Operation) → operation_width op ≤ 2 * light op
twice (insert_text units a) = omega (arith, wide_text units)
twice (insert_embed name v a) = omega arith
twice (retain n c) = omega arith
twice (delete n) = omega arith

twice_all : (ops : List Operation) → sum_by operation_width ops ≤ 2 * sum_by light ops
twice_all [] = omega arith
twice_all (op ∷ ops) = omega (arith, sum_by-cons operation_width op ops, sum_by-cons light op ops, twice op, twice_all ops)

pub light_content : LightContent
light_content units = omega (arith, twice_all (inserts_of units), light_inserts units)
