-- The delta of the operations so far, with those that are left.
use Rattle.std.proofs.Common.{◌≡◌, ◌+◌, ◌<◌, ◌≤◌, ◌^◌, ◌⊎◌, ◌↔◌, ◌&&◌, ℕ, true, false, cond, List, [], ◌∷◌, ◌++◌, length, drop, get_or, Option, Some, None, Result, Ok, Err, refl, sym, ap, ◌∙◌, append_assoc, add-one, drop-cons, inl, inr, arith}
use Rattle.std.proofs.lemmas.Bool.Decides.{nat_tests}
use Rattle.std.proofs.lemmas.List.{drop_all, append-nil}
use Rattle.std.specs.Prelude.{option_map, option_and_then, nat_le}
use Rattle.serde_json.specs.Data.{item}
use Rattle.serde_json.specs.View.{view, items_view}
use Rattle.serde_json.specs.declared.value.Value.{Value}
use Rattle.serde_json.proofs.Views.{items_len-items_view}
use Rattle.refusal.specs.declared.Refusal.{Refusal}
use Rattle.refusal.specs.declared.Refusal.TheVariants.{BadOps, TooManyOps, NoMemory}
use Rattle.delta.specs.Operation.{Operation, base_of, out_of, IsBounded, is_bounded, is_bounded-Decides}
use Rattle.delta.specs.Gaps.{counted}
use Rattle.delta.specs.Normal.{nf, built}
use Rattle.delta.specs.Laws.{BuiltInPieces, NormalOfBuilt, LengthsOfBuilt}
use Rattle.delta.proofs.CallerLemmas.{base_of-append, out_of-append}
use Rattle.optext.specs.Answer.{IsAnswer, IsRead}
use Rattle.optext.specs.Described.{operation_of, operations_of, delta_by, delta_of}

pub delta_of-many : (vs : List Value) → 1024 < length vs → delta_of (items_view vs) ≡ Err TooManyOps
delta_of-many vs many = let len = items_len-items_view vs in grind (arith, nat_tests)

pub delta_of-few : (vs : List Value) → length vs ≤ 1024 → delta_of (items_view vs) ≡ delta_by (operations_of (items_view vs))
delta_of-few vs few = let len = items_len-items_view vs in grind (arith, nat_tests)

-- the value that a loop is at, before those that are left
pub items_at : (vs : List Value) (i : ℕ) (v : Value) → i < length vs → v ≡ get_or vs i v → items_view (drop i vs) ≡ item (view v) (items_view (drop (i + 1) vs))
items_at vs i v inside is =
    let here : drop i vs ≡ get_or vs i v ∷ drop (i + 1) vs = rw add-one (drop-cons vs i v inside) in
    ap items_view here ∙ ap (λ (w : Value). item (view w) (items_view (drop (i + 1) vs))) (sym is)

-- a delta is told by the two lengths and the normal form
delta_by-same : (a b : List Operation) → base_of a ≡ base_of b → out_of a ≡ out_of b → nf (counted a) ≡ nf (counted b) → delta_by (Some a) ≡ delta_by (Some b)
delta_by-same a b base out normal =
    λ i. cond (nat_le (base i) (2 ^ 48) && nat_le (out i) (2 ^ 48)) (Ok (normal i)) (Err BadOps)

pub bounded_delta : (ops : List Operation) → IsBounded ops → delta_by (Some ops) ≡ Ok (nf (counted ops))
bounded_delta ops bounded = let base = bounded.base in let out = bounded.out in grind (arith, nat_tests)

-- the operations so far, with those that are left, where one of these may be none
abbrev pub delta_with : List Operation → Option (List Operation) → Result (List Operation) Refusal
delta_with done found = delta_by (option_map (λ rest. done ++ rest) found)

pub delta_with-nothing : (found : Option (List Operation)) → delta_with [] found ≡ delta_by found
delta_with-nothing None = refl
delta_with-nothing (Some ops) = refl

module _ (pieces : BuiltInPieces) (normal : NormalOfBuilt) (lengths : LengthsOfBuilt) where
  -- the built form of the operations so far represents them
  delta_with-built : (done rest : List Operation) → delta_by (Some (built done ++ rest)) ≡ delta_by (Some (done ++ rest))
  delta_with-built done rest =
      delta_by-same (built done ++ rest) (done ++ rest)
      (base_of-append (built done) rest ∙ (ap (λ n. n + base_of rest) (lengths done).0 ∙ sym (base_of-append done rest)))
      (out_of-append (built done) rest ∙ (ap (λ n. n + out_of rest) (lengths done).1 ∙ sym (out_of-append done rest)))
      (sym (normal (built done ++ rest)) ∙ (ap (λ l. nf (counted l)) (pieces done rest) ∙ normal (done ++ rest)))

  -- one operation more
  pub delta_with-more : (done : List Operation) (op : Operation) (found : Option (List Operation))
      → delta_with done (option_map (λ ops. op ∷ ops) found) ≡ delta_with (built (done ++ op ∷ [])) found
  delta_with-more done op None = refl
  delta_with-more done op (Some rest) =
      sym (delta_with-built (done ++ op ∷ []) rest ∙ ap (λ l. delta_by (Some l)) (append_assoc done (op ∷ []) rest))

-- where one operation more would pass the bound, the delta of all would
pub delta_with-over : (done : List Operation) (op : Operation) (found : Option (List Operation)) → ¬ (IsBounded (done ++ op ∷ []))
    → delta_with done (option_map (λ ops. op ∷ ops) found) ≡ Err BadOps
delta_with-over done op None over = refl
delta_with-over done op (Some rest) over =
    let base = base_of-append done (op ∷ rest) in
    let out = out_of-append done (op ∷ rest) in
    let base_one = base_of-append done (op ∷ []) in
    let out_one = out_of-append done (op ∷ []) in
    let within : base_of (done ++ op ∷ rest) ≤ 2 ^ 48 → out_of (done ++ op ∷ rest) ≤ 2 ^ 48 → ⊥ =
    λ b o. over (record { base = omega arith; out = omega arith }) in
    grind (arith, nat_tests)

-- what isn't unbounded is bounded
pub bounded_from : (ops : List Operation) → ¬ (¬ (IsBounded ops)) → IsBounded ops
bounded_from ops not_over =
    elim (is_bounded ops) as (λ t. is_bounded ops ≡ t → IsBounded ops) [
      | true ↦ λ e. (is_bounded-Decides ops).0 e
      | false ↦ λ e. absurd (not_over (λ bounded. absurd (cc ((is_bounded-Decides ops).1 bounded))))
    ] refl

-- a loop over an array, at the value at i, with the operations so far
module _ (vs : List Value) (i : ℕ) (v : Value) (inside : i < length vs) (is : v ≡ get_or vs i v) (done : List Operation)
    (due : delta_by (operations_of (items_view vs)) ≡ delta_with done (operations_of (items_view (drop i vs)))) where
  -- the operations that are left, by the first of them
  left : (found : Option Operation) → operation_of (view v) ≡ found
      → delta_by (operations_of (items_view vs))
      ≡ delta_with done (option_and_then (λ op. option_map (λ ops. op ∷ ops) (operations_of (items_view (drop (i + 1) vs)))) found)
  left found read =
      due
      ∙ (ap (λ items. delta_with done (operations_of items)) (items_at vs i v inside is)
      ∙ ap (λ o. delta_with done (option_and_then (λ op. option_map (λ ops. op ∷ ops) (operations_of (items_view (drop (i + 1) vs)))) o)) read)

  pub left-none : operation_of (view v) ≡ None → delta_by (operations_of (items_view vs)) ≡ Err BadOps
  left-none read = left None read

  pub left-over : (op : Operation) → operation_of (view v) ≡ Some op → ¬ (IsBounded (done ++ op ∷ [])) → delta_by (operations_of (items_view vs)) ≡ Err BadOps
  left-over op read over = left (Some op) read ∙ delta_with-over done op (operations_of (items_view (drop (i + 1) vs))) over

  pub left-more : BuiltInPieces → NormalOfBuilt → LengthsOfBuilt → (op : Operation) → operation_of (view v) ≡ Some op
      → delta_by (operations_of (items_view vs)) ≡ delta_with (built (done ++ op ∷ [])) (operations_of (items_view (drop (i + 1) vs)))
  left-more pieces normal lengths op read =
      left (Some op) read ∙ delta_with-more pieces normal lengths done op (operations_of (items_view (drop (i + 1) vs)))

-- past the last value
pub left-all : (vs : List Value) (i : ℕ) (done : List Operation) → length vs ≤ i → IsBounded done
    → delta_by (operations_of (items_view vs)) ≡ delta_with done (operations_of (items_view (drop i vs)))
    → delta_by (operations_of (items_view vs)) ≡ Ok (nf (counted done))
left-all vs i done over bounded due =
    due
    ∙ (ap (λ l. delta_with done (operations_of (items_view l))) (drop_all i vs over)
    ∙ (ap (λ l. delta_by (Some l)) (append-nil done) ∙ bounded_delta done bounded))

-- a value is refused: what is due for the array
pub refused_op : (vs : List Value) (i : ℕ) (v : Value) → i < length vs → v ≡ get_or vs i v → (done : List Operation)
    → delta_by (operations_of (items_view vs)) ≡ delta_with done (operations_of (items_view (drop i vs)))
    → (e : Refusal) → IsRead {X = Operation} (operation_of (view v)) (Err e) → IsAnswer (delta_by (operations_of (items_view vs))) (Err e)
refused_op vs i v inside is done due e (inl memory) = inr (ap Err memory)
refused_op vs i v inside is done due e (inr bad) = inl (ap Err bad.0 ∙ sym (left-none vs i v inside is done due bad.1))

-- an operation is refused by the builder
pub refused_push : (vs : List Value) (i : ℕ) (v : Value) → i < length vs → v ≡ get_or vs i v → (done : List Operation)
    → delta_by (operations_of (items_view vs)) ≡ delta_with done (operations_of (items_view (drop i vs)))
    → (op : Operation) (e : Refusal) → operation_of (view v) ≡ Some op
    → ((◌≡◌ {A = Result (Unit {0}) Refusal} (Err e) (Err BadOps)) ↔ ¬ (IsBounded (done ++ op ∷ []))) → ((e ≡ BadOps) ⊎ (e ≡ NoMemory))
    → IsAnswer (delta_by (operations_of (items_view vs))) (Err e)
refused_push vs i v inside is done due op e read bad (inl refused) =
    inl (ap Err refused ∙ sym (left-over vs i v inside is done due op read (bad.0 (ap Err refused))))
refused_push vs i v inside is done due op e read bad (inr memory) = inr (ap Err memory)
