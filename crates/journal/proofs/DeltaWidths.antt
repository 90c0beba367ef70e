-- Widths of spellings.
use Rattle.std.proofs.Common.{◌≡◌, ℕ, true, false, Option, Some, None, List, [], ◌∷◌, ◌++◌, length, sum_by, refl, arith}
use Rattle.std.specs.Int.{w32, w64, cast_unsigned}
use Rattle.std.specs.List.{flat_map}
use Rattle.std.proofs.lemmas.List.{length-append}
use Rattle.std.proofs.lemmas.List.Sums.{sum_by-cons}
use Rattle.utf16.specs.Units.{utf8_of}
use Rattle.attributes.specs.Scalar.{Scalar, text_scalar, whole_scalar, flag_scalar}
use Rattle.delta.specs.Operation.{Operation, insert_text, insert_embed, retain, delete}
use Rattle.journal.specs.Spelling.{number, text16, text32}
use Rattle.journal.specs.DeltaSpelling.{value, new_value, pair, pairs, operation, delta}
use Rattle.revision.specs.Width.{value_width, new_value_width, pair_width, pairs_width, operation_width, delta_width}
use Rattle.journal.proofs.Widths.{length-number32, length-number64, length-text16, length-text32}

length-value : (v : Scalar) → length (value v) ≡ value_width v
unfolding value
length-value (flag_scalar false) = refl
length-value (flag_scalar true) = refl
length-value (whole_scalar n) = omega (arith, length-number64 (cast_unsigned w64 n))
length-value (text_scalar text) = omega (arith, length-text32 text)

length-new_value : (v : Option Scalar) → length (new_value v) ≡ new_value_width v
unfolding new_value
length-new_value None = refl
length-new_value (Some v) = length-value v

module _ {X : Type 0} (spell : X → List ℕ) (width : X → ℕ) (is : (x : X) → length (spell x) ≡ width x) where
  length-pair : (p : List ℕ × X) → length (pair spell p) ≡ pair_width width p
  unfolding pair
  length-pair p = omega (arith, length-append (text16 p.0) (spell p.1), length-text16 p.0, is p.1)

  length-each : (all : List (List ℕ × X)) → length (flat_map (pair spell) all) ≡ sum_by (pair_width width) all
  length-each [] = refl
  length-each (p ∷ all) = omega (arith, length-append (pair spell p) (flat_map (pair spell) all), length-pair p, length-each all, sum_by-cons (pair_width width) p all)

  length-pairs : (all : List (List ℕ × X)) → length (pairs spell all) ≡ pairs_width width all
  unfolding pairs
  length-pairs all = omega (arith, length-append (number w32 (length all)) (flat_map (pair spell) all), length-number32 (length all), length-each all)

length-operation : (op : Operation) → length (operation op) ≡ operation_width op
unfolding operation
length-operation (insert_text us a) =
    omega (arith, length-append (text32 (utf8_of us)) (pairs value a.entries), length-text32 (utf8_of us), length-pairs value value_width length-value a.entries)
length-operation (insert_embed name v a) =
    omega (arith, length-append (text16 name ++ value v) (pairs value a.entries), length-append (text16 name) (value v), length-text16 name, length-value v, length-pairs value value_width length-value a.entries)
length-operation (retain n c) =
    omega (arith, length-append (number w64 n) (pairs new_value c.entries), length-number64 n, length-pairs new_value new_value_width length-new_value c.entries)
length-operation (delete n) = omega (arith, length-number64 n)

length-operations : (ops : List Operation) → length (flat_map operation ops) ≡ sum_by operation_width ops
length-operations [] = refl
length-operations (op ∷ ops) = omega (arith, length-append (operation op) (flat_map operation ops), length-operation op, length-operations ops, sum_by-cons operation_width op ops)

-- a spelling is as long as its delta is wide
pub length-delta : (ops : List Operation) → length (delta ops) ≡ delta_width ops
unfolding delta
length-delta ops = omega (arith, length-append (number w32 (length ops)) (flat_map operation ops), length-number32 (length ops), length-operations ops)
