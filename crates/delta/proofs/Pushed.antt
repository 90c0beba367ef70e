-- A push: what is refused, what is nothing, and what a builder keeps after it.
use Rattle.std.proofs.Common.{◌≡◌, ℕ, zero, suc, ◌+◌, ◌-◌, ◌<◌, ◌≤◌, ◌^◌, List, [], ◌∷◌, ◌++◌, take, drop, refl, sym, ap, subst, ◌∙◌, arith}
use Rattle.std.specs.Prelude.{IsTrue}
use Rattle.delta.specs.Operation.{Operation, insert_text, insert_embed, retain, delete, op_len, op_base, op_out, base_of, out_of, IsBounded}
use Rattle.delta.specs.Gaps.{End, counted, joined}
use Rattle.delta.specs.Normal.{is_built, built, settled, spelled}
use Rattle.delta.specs.steps.Building.{added, place_of, IsBuilding}
use Rattle.delta.proofs.Joins.{counted-append, joined-End}
use Rattle.delta.proofs.Normality.{built-spelled_settled}
use Rattle.delta.proofs.BuiltLists.{built-same}
use Rattle.delta.proofs.Lengths.{base_of-append, out_of-append, lengths-built, IsBounded-built}
use Rattle.delta.proofs.Pushing.{built-push}

-- the bound with one operation more
pub bounded-push : (ops : List Operation) (op : Operation) → base_of ops + op_base op ≤ 2 ^ 48 → out_of ops + op_out op ≤ 2 ^ 48 → IsBounded (ops ++ op ∷ [])
bounded-push ops op base out = record {
  base = omega (arith, base_of-append ops (op ∷ []));
  out = omega (arith, out_of-append ops (op ∷ []));
}

pub base_of-push : (ops : List Operation) (op : Operation) → IsBounded (ops ++ op ∷ []) → base_of ops + op_base op ≤ 2 ^ 48
base_of-push ops op bounded = omega (arith, base_of-append ops (op ∷ []), bounded.base)

pub out_of-push : (ops : List Operation) (op : Operation) → IsBounded (ops ++ op ∷ []) → out_of ops + op_out op ≤ 2 ^ 48
out_of-push ops op bounded = omega (arith, out_of-append ops (op ∷ []), bounded.out)

-- an operation of length 0 is nothing
op_len-zero : (op : Operation) → op_base op ≡ 0 → op_out op ≡ 0 → op_len op ≡ 0
op_len-zero (insert_text us a) base out = out
op_len-zero (insert_embed key value a) base out = out
op_len-zero (retain n c) base out = base
op_len-zero (delete n) base out = base

op_len-some : (op : Operation) → 0 < op_base op + op_out op → 0 < op_len op
op_len-some (insert_text us a) some = omega arith
op_len-some (insert_embed key value a) some = omega arith
op_len-some (retain n c) some = omega arith
op_len-some (delete n) some = omega arith

-- one that has a length is added at its place
pub built-added : (ops new : List Operation) (op : Operation) → IsTrue (is_built ops) → 0 < op_base op + op_out op → new ≡ added (take (place_of ops op) ops) op ++ drop (place_of ops op) ops → new ≡ built (ops ++ op ∷ [])
built-added ops new op h some e = e ∙ sym (built-push ops op h (op_len-some op some))

pub counted-nothing : (op : Operation) → op_len op ≡ 0 → counted (op ∷ []) ≡ End []
counted-nothing (insert_text [] a) none = refl
counted-nothing (insert_text (u ∷ us) a) none = absurd (omega arith)
counted-nothing (insert_embed key value a) none = absurd (omega arith)
counted-nothing (retain zero c) none = refl
counted-nothing (retain (suc n) c) none = absurd (omega arith)
counted-nothing (delete zero) none = refl
counted-nothing (delete (suc n)) none = absurd (omega arith)

pub built-nothing : (ops : List Operation) (op : Operation) → IsTrue (is_built ops) → op_base op ≡ 0 → op_out op ≡ 0 → ops ≡ built (ops ++ op ∷ [])
built-nothing ops op h base out =
    sym (built-same ops h)
    ∙ ap (λ g. spelled (settled g)) (sym (counted-append ops (op ∷ []) ∙ (ap (joined (counted ops)) (counted-nothing op (op_len-zero op base out)) ∙ joined-End (counted ops))))

-- a builder has room for it, or not
pub bounded-room : (ops now : List Operation) (op : Operation) (base out b o : ℕ) → IsBuilding ops base out → ops ≡ now → b ≡ op_base op → o ≡ op_out op
    → b ≤ 2 ^ 48 - base → o ≤ 2 ^ 48 - out → IsBounded (now ++ op ∷ [])
bounded-room ops now op base out b o kept same b_is o_is room_base room_out =
    subst (λ l. IsBounded (l ++ op ∷ [])) same
    (bounded-push ops op (omega (arith, kept.bounded.base, kept.base_is)) (omega (arith, kept.bounded.out, kept.out_is)))

-- what it keeps then
pub IsBuilding-push : (ops new : List Operation) (op : Operation) (base out b o : ℕ) → IsBuilding ops base out → new ≡ built (ops ++ op ∷ []) → b ≡ op_base op → o ≡ op_out op
    → b ≤ 2 ^ 48 - base → o ≤ 2 ^ 48 - out → IsBuilding new (base + b) (out + o)
IsBuilding-push ops new op base out b o kept new_is b_is o_is room_base room_out =
    let all : List Operation = ops ++ op ∷ [] in
    let bounded = bounded-room ops ops op base out b o kept refl b_is o_is room_base room_out in
    let lengths : (base_of (built all) ≡ base_of all) × (out_of (built all) ≡ out_of all) = lengths-built all in record {
      built = subst (λ l. IsTrue (is_built l)) (sym new_is) (built-spelled_settled (counted all));
      bounded = subst IsBounded (sym new_is) (IsBounded-built all bounded);
      base_is = omega (arith, ap base_of new_is, lengths.0, base_of-append ops (op ∷ []), kept.base_is);
      out_is = omega (arith, ap out_of new_is, lengths.1, out_of-append ops (op ∷ []), kept.out_is);
    }
