-- Operations with units kept without a change behind them, as a builder that trims keeps them.
use Rattle.std.proofs.Common.{◌≡◌, ℕ, zero, suc, ◌+◌, ◌<◌, ◌≤◌, false, List, [], ◌∷◌, ◌++◌, sym, ap, ◌∙◌, arith}
use Rattle.attributes.specs.Map.{empty}
use Rattle.delta.specs.Operation.{Operation, retain, is_plain, op_len, base_of, out_of, IsBounded}
use Rattle.delta.specs.Gaps.{Gaps, End, Gap, Fate, Keep, run, counted, joined}
use Rattle.delta.specs.Normal.{built, settled, trimmed, spelled, nf}
use Rattle.delta.specs.steps.Building.{with_plain}
use Rattle.delta.proofs.BuiltLists.{built-append}
use Rattle.delta.proofs.Joins.{front-nil, counted-append, joined-End, joined-joined, joined-run}
use Rattle.delta.proofs.Lengths.{base_of-append, out_of-append, lengths-built}
use Rattle.delta.proofs.Pushed.{counted-nothing}
use Rattle.delta.proofs.Settling.{settled-settled}
use Rattle.delta.proofs.Spellings.{counted-spelled}
use Rattle.delta.proofs.Shortest.{bounded-before, shortest-joined}

run-add : (m n : ℕ) (f : Fate) (g : Gaps) → run (m + n) f g ≡ run m f (run n f g)
run-add zero n f g = let same : 0 + n ≡ n = omega arith in ap (λ k. run k f g) same
run-add (suc m) n f g = let same : suc m + n ≡ suc (m + n) = omega arith in ap (λ k. run k f g) same ∙ ap (Gap [] f) (run-add m n f g)

-- more such units
counted-more : (ops : List Operation) (m n : ℕ) → counted (with_plain ops (m + n)) ≡ counted (with_plain ops m ++ retain n empty ∷ [])
counted-more ops m n =
    counted-append ops (retain (m + n) empty ∷ [])
    ∙ (ap (joined (counted ops)) more
    ∙ (sym (joined-joined (counted ops) (counted (retain m empty ∷ [])) (counted (retain n empty ∷ [])))
    ∙ sym (counted-append (with_plain ops m) (retain n empty ∷ []) ∙ ap (λ g. joined g (counted (retain n empty ∷ []))) (counted-append ops (retain m empty ∷ [])))))
  where
    more : run (m + n) (Keep empty) (End []) ≡ joined (run m (Keep empty) (End [])) (run n (Keep empty) (End []))
    more =
        run-add m n (Keep empty) (End [])
        ∙ sym (joined-run m (Keep empty) (End []) (run n (Keep empty) (End [])) ∙ ap (run m (Keep empty)) (front-nil (run n (Keep empty) (End []))))

pub built-more : (ops now : List Operation) (m n : ℕ) (op : Operation) → built (with_plain ops m) ≡ now → op ≡ retain n empty → built (with_plain ops (m + n)) ≡ built (now ++ op ∷ [])
built-more ops now m n op same is =
    ap (λ g. spelled (settled g)) (counted-more ops m n)
    ∙ (ap (λ o. built (with_plain ops m ++ o ∷ [])) (sym is) ∙ (sym (built-append (with_plain ops m) (op ∷ [])) ∙ ap (λ l. built (l ++ op ∷ [])) same))

-- none of them
counted-none : (ops : List Operation) → counted (with_plain ops 0) ≡ counted ops
counted-none ops = counted-append ops (retain 0 empty ∷ []) ∙ joined-End (counted ops)

pub built-built : (ops : List Operation) → built (built ops) ≡ built ops
built-built ops = ap (λ g. spelled (settled g)) (counted-spelled (settled (counted ops))) ∙ ap spelled (settled-settled (counted ops))

pub built-none : (ops : List Operation) → built (with_plain ops 0) ≡ built ops
built-none ops = ap (λ g. spelled (settled g)) (counted-none ops)

-- they were put out, and nothing more
pub built-put : (ops between now : List Operation) (n : ℕ) → built (with_plain ops n) ≡ now → between ≡ built (with_plain ops n) → built (with_plain between 0) ≡ now
built-put ops between now n same is = built-none between ∙ (ap built is ∙ (built-built (with_plain ops n) ∙ same))

-- they were put out, and an operation after them
pub built-released : (ops between after now : List Operation) (n : ℕ) (op : Operation) → built (with_plain ops n) ≡ now → between ≡ built (with_plain ops n) → after ≡ built (between ++ op ∷ [])
    → built (with_plain after 0) ≡ built (now ++ op ∷ [])
built-released ops between after now n op same is after_is =
    built-none after ∙ (ap built after_is ∙ (built-built (between ++ op ∷ []) ∙ ap (λ l. built (l ++ op ∷ [])) (is ∙ same)))

-- an operation without a unit is nothing
pub built-empty : (now : List Operation) (op : Operation) → op_len op ≡ 0 → built (now ++ op ∷ []) ≡ built now
built-empty now op none =
    ap (λ g. spelled (settled g)) (counted-append now (op ∷ []) ∙ (ap (joined (counted now)) (counted-nothing op none) ∙ joined-End (counted now)))

-- the sum of the units kept is within the base length
pub plain-le : (ops now : List Operation) (n : ℕ) → built (with_plain ops n) ≡ now → n ≤ base_of now
plain-le ops now n same = omega (arith, ap base_of same, (lengths-built (with_plain ops n)).0, base_of-append ops (retain n empty ∷ []))

-- where the bound is passed, it is passed whatever follows
pub never-bounded : (bound now : List Operation) (op : Operation) → is_plain op ≡ false → 0 < op_len op → (IsBounded (now ++ op ∷ []) → IsBounded bound) → ¬ (IsBounded bound)
    → (rest : Gaps) → ¬ (IsBounded (nf (joined (counted (now ++ op ∷ [])) rest)))
never-bounded bound now op other some less past rest bounded = past (less (bounded-before now op rest other some bounded))

-- the bound of what was put out first
pub bounded-plain : (ops now : List Operation) (n : ℕ) (op : Operation) → built (with_plain ops n) ≡ now → IsBounded (now ++ op ∷ []) → IsBounded (with_plain ops n)
bounded-plain ops now n op same h =
    let lengths = lengths-built (with_plain ops n) in
    record {
      base = omega (arith, h.base, base_of-append now (op ∷ []), ap base_of same, lengths.0);
      out = omega (arith, h.out, out_of-append now (op ∷ []), ap out_of same, lengths.1);
    }

-- at the end they are no part of the normal form
pub nf-plain : (ops now : List Operation) (n : ℕ) → built (with_plain ops n) ≡ now → nf (counted ops) ≡ nf (counted now)
nf-plain ops now n same =
    ap spelled (sym (shortest-joined (counted ops) n))
    ∙ (ap nf (sym (counted-append ops (retain n empty ∷ [])))
    ∙ (ap (λ g. spelled (trimmed g)) (sym (settled-settled (counted (with_plain ops n))))
    ∙ (ap nf (sym (counted-spelled (settled (counted (with_plain ops n))))) ∙ ap (λ l. nf (counted l)) same)))

pub nf-with_plain : (ops : List Operation) (n : ℕ) → nf (counted (with_plain ops n)) ≡ nf (counted ops)
nf-with_plain ops n = ap nf (counted-append ops (retain n empty ∷ [])) ∙ ap spelled (shortest-joined (counted ops) n)
