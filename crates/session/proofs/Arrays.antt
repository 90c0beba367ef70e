-- The operations of an array whose tokens are read one after another.
use Rattle.std.proofs.Common.{◌≡◌, ℕ, suc, ◌+◌, ◌-◌, ◌≤◌, List, [], ◌∷◌, ◌++◌, length, Option, Some, None, option_map, option_and_then, refl, sym, ap, ◌∙◌, arith}
use Rattle.std.proofs.lemmas.List.{append-nil}
use Rattle.json.specs.Token.{Token, begin_array}
use Rattle.json.specs.Json.{after_end_array, value, items, parse_map}
use Rattle.json.proofs.Grammar.{value-begin_array}
use Rattle.serde_json.specs.Data.{Data, array, Items, no_items, item}
use Rattle.serde_json.specs.Events.{items_len}
use Rattle.serde_json.specs.Read.{of_json, of_items, converted}
use Rattle.delta.specs.Operation.{Operation, IsBounded}
use Rattle.delta.specs.Gaps.{counted}
use Rattle.delta.specs.Normal.{nf, built}
use Rattle.delta.specs.Laws.{BuiltInPieces, NormalOfBuilt, LengthsOfBuilt}
use Rattle.optext.specs.Described.{operation_of, operations_of, delta_by}
use Rattle.optext.proofs.Deltas.{delta_with, delta_with-nothing, delta_with-more, bounded_delta}
use Rattle.session.specs.steps.Tokened.{Spells, DescribesDelta}
use Rattle.session.proofs.Turns.{item_read, items_over, converted-array}
use Rattle.session.proofs.Objects.{shorter}
use Rattle.optext.proofs.CallerLemmas.{few_items}

-- what the items that are left make of an array, whose first so many items were read and built
abbrev pub Completes : ℕ → List Token → List Operation → ℕ → List Token → Type 0
Completes depth first done count left =
    (front : Items → Items) × ((rest : Items) → items_len (front rest) ≡ count + items_len rest)
    × ((rest : Items) → delta_by (operations_of (front rest)) ≡ delta_with done (operations_of rest))
    × ((nests : ℕ) → depth ≤ nests → (n : ℕ) × (length left ≤ n)
    × (converted of_items (items (value nests) (length first) first) ≡ parse_map front (converted of_items (items (value nests) n left))))

nothing_before : (o : Option (Items × List Token)) → o ≡ parse_map (λ rest. rest) o
nothing_before None = refl
nothing_before (Some p) = refl

one_more_before : (front : Items → Items) (d : Data) (o : Option (Items × List Token)) → parse_map front (parse_map (item d) o) ≡ parse_map (λ rest. front (item d rest)) o
one_more_before front d None = refl
one_more_before front d (Some p) = refl

pub no_item_yet : (depth : ℕ) (ts : List Token) → Completes depth ts [] 0 ts
no_item_yet depth ts = (
  λ rest. rest,
  λ rest. omega arith,
  λ rest. sym (delta_with-nothing (operations_of rest)),
  λ nests deep. (length ts, omega arith, nothing_before _),
)

module _ (pieces : BuiltInPieces) (normal : NormalOfBuilt) (lengths : LengthsOfBuilt) where
  -- one operation more
  pub item_more : (depth : ℕ) (first ts r : List Token) (done : List Operation) (count : ℕ) (op : Operation)
      → Completes depth first done count ts → after_end_array ts ≡ None → Spells (λ value. operation_of value ≡ Some op) depth ts r
      → Completes depth first (built (done ++ op ∷ [])) (count + 1) r
  item_more depth first ts r done count op so_far going spells = (
    λ rest. so_far.0 (item spells.0 rest),
    λ rest. omega (arith, so_far.1 (item spells.0 rest)),
    λ rest. so_far.2 (item spells.0 rest) ∙ ap (λ o. delta_with done (option_and_then (λ x. option_map (λ ops. x ∷ ops) (operations_of rest)) o)) spells.1
        ∙ delta_with-more pieces normal lengths done op (operations_of rest),
    λ nests deep.
        let was = so_far.3 nests deep in
        let read = spells.2 nests deep in
        let less = shorter nests ts r spells.0 read in (
          was.0 - 1,
          omega (arith, was.1),
          was.2 ∙ ap (parse_map so_far.0) (item_read (value nests) was.0 ts r spells.0 (omega (arith, was.1)) going read) ∙ one_more_before so_far.0 spells.0 _,
        ),
  )

-- the bracket that closes the array
pub items_end : (depth : ℕ) (first ts r : List Token) (done : List Operation) (count : ℕ)
    → Completes depth first done count ts → count ≤ 1024 → IsBounded done → after_end_array ts ≡ Some r
    → Spells (DescribesDelta (nf (counted done))) (suc depth) (begin_array ∷ first) r
items_end depth first ts r done count so_far small bounded ends =
    let all = so_far.0 no_items in (
      array all,
      (
        all,
        refl,
        few_items all (omega (arith, so_far.1 no_items))
            ∙ so_far.2 no_items
            ∙ ap (λ l. delta_by (Some l)) (append-nil done) ∙ bounded_delta done bounded,
      ),
      λ nests deep.
          let was = so_far.3 (nests - 1) (omega arith) in
          ap (converted of_json) (value-begin_array nests first (omega arith))
          ∙ converted-array (items (value (nests - 1)) (length first) first)
          ∙ ap (parse_map array) (was.2 ∙ ap (parse_map so_far.0) (items_over (value (nests - 1)) was.0 ts r was.1 ends)),
    )
