-- The inserts that make a document, run by run.
use Rattle.std.proofs.Common.{◌≡◌, ◌+◌, ◌≤◌, ◌^◌, ◌⊎◌, inl, inr, List, [], ◌∷◌, ◌++◌, length, sym, ap, ◌∙◌, arith, append-nil, Err, Result, ◌↔◌}
use Rattle.refusal.specs.declared.Refusal.{Refusal}
use Rattle.refusal.specs.declared.Refusal.TheVariants.{BadOps, NoMemory}
use Rattle.delta.specs.Element.{Element}
use Rattle.delta.specs.Operation.{Operation, op_base, op_out, base_of, out_of, IsBounded}
use Rattle.delta.specs.Gaps.{End, front, joined, counted, units_below, apply}
use Rattle.delta.specs.Normal.{spelled, settled, built, nf}
use Rattle.delta.proofs.CallerLemmas.{apply-nf, counted-append, units_below-counted, base_of-append, out_of-append, base_of-nf, length-apply_counted, counted-spelled}

counted_of : (us : List Element) (ops : List Operation) → ops ≡ spelled (End us) → counted ops ≡ End us
counted_of us ops e = ap counted e ∙ counted-spelled (End us)

-- one insert more
pub spelled_more : (us more all : List Element) (op : Operation) (before new : List Operation) → before ≡ spelled (End us) → counted (op ∷ []) ≡ End more
    → new ≡ built (before ++ op ∷ []) → all ≡ us ++ more → new ≡ spelled (End all)
spelled_more us more all op before new e one push whole =
    push
    ∙ (ap (λ g. spelled (settled g)) (counted-append before (op ∷ []) ∙ (ap (λ g. joined g (counted (op ∷ []))) (counted_of us before e) ∙ ap (front us) one))
    ∙ ap (λ l. spelled (End l)) (sym whole))

-- inserts have no base length, and the length of what they insert
base_of_inserts : (us : List Element) (ops : List Operation) → ops ≡ spelled (End us) → base_of ops ≡ 0
base_of_inserts us ops e =
    sym (units_below-counted ops) ∙ ap units_below (counted_of us ops e)

out_of_inserts : (us : List Element) (ops : List Operation) → ops ≡ spelled (End us) → out_of ops ≡ length us
out_of_inserts us ops e =
    let made : apply [] (counted ops) ≡ us = ap (apply []) (counted_of us ops e) ∙ append-nil us in
    omega (arith, length-apply_counted [] ops (omega (arith, base_of_inserts us ops e)), base_of_inserts us ops e, ap length made)

-- so a builder takes them as long as the document is within the bound
pub bounded_more : (us : List Element) (ops : List Operation) (op : Operation) → ops ≡ spelled (End us) → op_base op ≡ 0 → length us + op_out op ≤ 2 ^ 48 → IsBounded (ops ++ op ∷ [])
bounded_more us ops op e base bound = record {
  base = omega (arith, base_of-append ops (op ∷ []), base_of_inserts us ops e, base);
  out = omega (arith, out_of-append ops (op ∷ []), out_of_inserts us ops e, bound);
}

abbrev refused : Refusal → Result (Unit {0}) Refusal
refused refusal = Err refusal

pub only_memory : (refusal : Refusal) (P : Type 0) → P → ((refused refusal ≡ refused BadOps) ↔ ¬ P) → (refusal ≡ BadOps) ⊎ (refusal ≡ NoMemory) → refusal ≡ NoMemory
only_memory refusal P p bad (inl e) = absurd (bad.0 (ap refused e) p)
only_memory refusal P p bad (inr e) = e

-- the finished delta
pub finished : (us : List Element) (ops result : List Operation) → ops ≡ spelled (End us) → result ≡ nf (counted ops) → result ≡ nf (End us)
finished us ops result e finish = finish ∙ ap nf (counted_of us ops e)

pub finished_base : (us : List Element) (result : List Operation) → result ≡ nf (End us) → base_of result ≡ 0
finished_base us result e = omega (arith, ap base_of e, base_of-nf (End us))

pub finished_back : (us : List Element) (result : List Operation) → result ≡ nf (End us) → apply [] (counted result) ≡ us
finished_back us result e = ap (λ ops. apply [] (counted ops)) e ∙ (apply-nf [] (End us) ∙ append-nil us)
