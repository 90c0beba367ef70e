-- How much of operations is a last retain without attributes, and that nothing before the operation that follows is.
use Rattle.std.proofs.Common.{◌≡◌, ℕ, zero, suc, ◌+◌, ◌≤◌, ◌<◌, ◌^◌, Bool, true, false, cond, List, [], ◌∷◌, ◌++◌, refl, sym, ap, subst, ◌∙◌, arith}
use Rattle.std.specs.Prelude.{not, ◌&&◌}
use Rattle.std.proofs.Math.Bool.{and-false}
use Rattle.std.proofs.lemmas.Bool.{not-true}
use Rattle.std.proofs.lemmas.List.{append_assoc, append-nil}
use Rattle.attributes.specs.Map.{empty}
use Rattle.attributes.specs.Attributes.{Changes, same_changes}
use Rattle.delta.specs.Element.{Element, letters, lettered, embedded}
use Rattle.delta.specs.Operation.{Operation, insert_text, insert_embed, retain, delete, op_len, op_base, op_out, base_of, out_of, is_plain, IsBounded}
use Rattle.delta.specs.Gaps.{Gaps, End, Gap, Fate, Keep, Del, front, run, counted, joined, units_below}
use Rattle.delta.specs.Normal.{past, settled, trim, trimmed, nf, IsNormal}
use Rattle.delta.proofs.CallerLemmas.{counted-append, units_below-counted, base_of-append, out_of-append, base_of-spelled, lengths-nf, built-parts, normal-parts, normal-rest}

-- nothing but kept units without a change
abbrev is_bare : Gaps → Bool
is_bare (End []) = true
is_bare (End (x ∷ xs)) = false
is_bare (Gap [] (Keep c) g) = same_changes c empty && is_bare g
is_bare (Gap [] Del g) = false
is_bare (Gap (x ∷ xs) f g) = false

-- how many such units are last
abbrev plain_end : Gaps → ℕ
plain_end (End xs) = 0
plain_end (Gap xs (Keep c) g) = cond (same_changes c empty && is_bare g) (suc (plain_end g)) (plain_end g)
plain_end (Gap xs Del g) = plain_end g

abbrev is_end : Gaps → Bool
is_end (End []) = true
is_end (End (x ∷ xs)) = false
is_end (Gap xs f g) = false

-- they are what trimming takes off
units-trim : (xs : List Element) (f : Fate) (g : Gaps) → units_below (trim xs f g) ≡ units_below (trim [] f g)
units-trim xs (Keep c) (End []) =
    elim (same_changes c empty) as (λ t. units_below (cond t (End xs) (Gap xs (Keep c) (End []))) ≡ units_below (cond t (End []) (Gap [] (Keep c) (End [])))) [ true ↦ refl | false ↦ refl ]
units-trim xs (Keep c) (End (y ∷ ys)) = refl
units-trim xs (Keep c) (Gap ys f g) = refl
units-trim xs Del g = refl

units-deleted : (xs : List Element) (s : Gaps) → units_below (trimmed (front xs (past Del s))) ≡ suc (units_below (trimmed s))
units-deleted xs (End ys) = refl
units-deleted xs (Gap ys f g) = ap suc (units-trim [] f (trimmed g) ∙ sym (units-trim ys f (trimmed g)))

units-kept : (xs : List Element) (c : Changes) (t : Gaps) (n k : ℕ) → units_below t + n ≡ k
    → units_below (trim xs (Keep c) t) + cond (same_changes c empty && is_end t) (suc n) n ≡ suc k
units-kept xs c (End []) n k sum =
    elim (same_changes c empty) as (λ s. units_below (cond s (End xs) (Gap xs (Keep c) (End []))) + cond (s && true) (suc n) n ≡ suc k) [
      | true ↦ omega (arith, sum)
      | false ↦ omega (arith, sum)
    ]
units-kept xs c (End (y ∷ ys)) n k sum = ap (λ s. 1 + cond s (suc n) n) (and-false (same_changes c empty)) ∙ omega (arith, sum)
units-kept xs c (Gap ys f g) n k sum = ap (λ s. suc (suc (units_below g)) + cond s (suc n) n) (and-false (same_changes c empty)) ∙ omega (arith, sum)

bare-kept : (xs : List Element) (c : Changes) (t : Gaps) → is_end (trim xs (Keep c) t) ≡ is_bare (Gap xs (Keep c) (cond (is_end t) (End []) (End (lettered 0 empty ∷ []))))
bare-kept [] c (End []) = elim (same_changes c empty) as (λ s. is_end (cond s (End []) (Gap [] (Keep c) (End []))) ≡ (s && true)) [ true ↦ refl | false ↦ refl ]
bare-kept (x ∷ xs) c (End []) = elim (same_changes c empty) as (λ s. is_end (cond s (End (x ∷ xs)) (Gap (x ∷ xs) (Keep c) (End []))) ≡ false) [ true ↦ refl | false ↦ refl ]
bare-kept [] c (End (y ∷ ys)) = sym (and-false (same_changes c empty))
bare-kept (x ∷ xs) c (End (y ∷ ys)) = refl
bare-kept [] c (Gap ys f g) = sym (and-false (same_changes c empty))
bare-kept (x ∷ xs) c (Gap ys f g) = refl

bare-cond : (xs : List Element) (c : Changes) (s : Bool) (g : Gaps) → is_bare g ≡ s → is_bare (Gap xs (Keep c) (cond s (End []) (End (lettered 0 empty ∷ [])))) ≡ is_bare (Gap xs (Keep c) g)
bare-cond [] c true g e = ap (λ t. same_changes c empty && t) (sym e)
bare-cond [] c false g e = ap (λ t. same_changes c empty && t) (sym e)
bare-cond (x ∷ xs) c s g e = refl

deleted-not_end : (xs : List Element) (s : Gaps) → is_end (trimmed (front xs (past Del s))) ≡ false
deleted-not_end xs (End ys) = refl
deleted-not_end xs (Gap ys f g) = refl

is_end-trimmed : (g : Gaps) → is_end (trimmed (settled g)) ≡ is_bare g
is_end-trimmed (End []) = refl
is_end-trimmed (End (x ∷ xs)) = refl
is_end-trimmed (Gap xs (Keep c) g) =
    ap (λ l. is_end (trim l (Keep c) (trimmed (settled g)))) (append-nil xs)
    ∙ (bare-kept xs c (trimmed (settled g)) ∙ bare-cond xs c (is_end (trimmed (settled g))) g (sym (is_end-trimmed g)))
is_end-trimmed (Gap [] Del g) = deleted-not_end [] (settled g)
is_end-trimmed (Gap (x ∷ xs) Del g) = deleted-not_end (x ∷ xs) (settled g)

units-trimmed : (g : Gaps) → units_below (trimmed (settled g)) + plain_end g ≡ units_below g
units-trimmed (End xs) = refl
units-trimmed (Gap xs (Keep c) g) =
    ap (λ s. units_below (trim (xs ++ []) (Keep c) (trimmed (settled g))) + cond (same_changes c empty && s) (suc (plain_end g)) (plain_end g)) (sym (is_end-trimmed g))
    ∙ units-kept (xs ++ []) c (trimmed (settled g)) (plain_end g) (units_below g) (units-trimmed g)
units-trimmed (Gap xs Del g) = omega (arith, units-deleted xs (settled g), units-trimmed g)

base-nf : (ops : List Operation) → base_of (nf (counted ops)) + plain_end (counted ops) ≡ base_of ops
base-nf ops =
    ap (λ n. n + plain_end (counted ops)) (base_of-spelled (trimmed (settled (counted ops)))) ∙ (units-trimmed (counted ops) ∙ units_below-counted ops)

-- where something else follows, the same units are last
plain-front : (xs : List Element) (g : Gaps) → plain_end (front xs g) ≡ plain_end g
plain-front xs (End ys) = refl
plain-front xs (Gap ys (Keep c) g) = refl
plain-front xs (Gap ys Del g) = refl

bare-front : (xs : List Element) (g : Gaps) → is_bare g ≡ false → is_bare (front xs g) ≡ false
bare-front [] (End []) some = absurd (cc)
bare-front (x ∷ xs) (End []) some = absurd (cc)
bare-front [] (End (y ∷ ys)) some = refl
bare-front (x ∷ xs) (End (y ∷ ys)) some = refl
bare-front [] (Gap ys f g) some = some
bare-front (x ∷ xs) (Gap ys f g) some = refl

bare-inserted : (x : Element) (xs : List Element) (g : Gaps) → is_bare (front (x ∷ xs) g) ≡ false
bare-inserted x xs (End ys) = refl
bare-inserted x xs (Gap ys f g) = refl

bare-joined : (g k : Gaps) → is_bare k ≡ false → is_bare (joined g k) ≡ false
bare-joined (End xs) k some = bare-front xs k some
bare-joined (Gap [] (Keep c) g) k some = ap (λ s. same_changes c empty && s) (bare-joined g k some) ∙ and-false (same_changes c empty)
bare-joined (Gap [] Del g) k some = refl
bare-joined (Gap (x ∷ xs) f g) k some = refl

plain-joined : (g k : Gaps) → is_bare k ≡ false → plain_end (joined g k) ≡ plain_end k
plain-joined (End xs) k some = plain-front xs k
plain-joined (Gap xs (Keep c) g) k some =
    ap (λ s. cond (same_changes c empty && s) (suc (plain_end (joined g k))) (plain_end (joined g k))) (bare-joined g k some)
    ∙ (ap (λ s. cond s (suc (plain_end (joined g k))) (plain_end (joined g k))) (and-false (same_changes c empty)) ∙ plain-joined g k some)
plain-joined (Gap xs Del g) k some = plain-joined g k some

plain-kept : (n : ℕ) (c : Changes) (g : Gaps) → same_changes c empty ≡ false → plain_end (run n (Keep c) g) ≡ plain_end g
plain-kept zero c g other = refl
plain-kept (suc n) c g other =
    ap (λ s. cond (s && is_bare (run n (Keep c) g)) (suc (plain_end (run n (Keep c) g))) (plain_end (run n (Keep c) g))) other ∙ plain-kept n c g other

plain-deleted : (n : ℕ) (g : Gaps) → plain_end (run n Del g) ≡ plain_end g
plain-deleted zero g = refl
plain-deleted (suc n) g = plain-deleted n g

bare-op : (op : Operation) (ops : List Operation) → is_plain op ≡ false → 0 < op_len op → is_bare (counted (op ∷ ops)) ≡ false
bare-op (insert_text [] a) ops other some = absurd (omega arith)
bare-op (insert_text (u ∷ us) a) ops other some = bare-inserted (lettered u a) (letters us a) (counted ops)
bare-op (insert_embed key value a) ops other some = bare-inserted (embedded key value a) [] (counted ops)
bare-op (retain zero c) ops other some = absurd (omega arith)
bare-op (retain (suc n) c) ops other some = ap (λ s. s && is_bare (run n (Keep c) (counted ops))) other
bare-op (delete zero) ops other some = absurd (omega arith)
bare-op (delete (suc n)) ops other some = refl

plain-op : (op : Operation) (ops : List Operation) → is_plain op ≡ false → plain_end (counted (op ∷ ops)) ≡ plain_end (counted ops)
plain-op (insert_text us a) ops other = plain-front (letters us a) (counted ops)
plain-op (insert_embed key value a) ops other = plain-front (embedded key value a ∷ []) (counted ops)
plain-op (retain n c) ops other = plain-kept n c (counted ops) other
plain-op (delete n) ops other = plain-deleted n (counted ops)

-- so what stands before such an operation counts in full
pub bounded-before : (ops : List Operation) (op : Operation) (more : List Operation) → is_plain op ≡ false → 0 < op_len op
    → IsBounded (nf (counted (ops ++ op ∷ more))) → (base_of ops + op_base op ≤ 2 ^ 48) × (out_of ops + op_out op ≤ 2 ^ 48)
bounded-before ops op more other some bounded =
    let all : List Operation = ops ++ op ∷ more in
    let plain : plain_end (counted all) ≡ plain_end (counted more) =
    ap plain_end (counted-append ops (op ∷ more)) ∙ (plain-joined (counted ops) (counted (op ∷ more)) (bare-op op more other some) ∙ plain-op op more other) in
    let base_all = base-nf all in
    let base_more = base-nf more in
    let both_all = lengths-nf all in
    let both_more = lengths-nf more in
    let base_sum = base_of-append ops (op ∷ more) in
    let out_sum = out_of-append ops (op ∷ more) in
    let base_bound = bounded.base in
    let out_bound = bounded.out in
    (omega (arith, base_all, base_more, plain, base_sum, base_bound), omega (arith, base_all, base_more, both_all, both_more, plain, base_sum, out_sum, out_bound))

-- operations in normal form end with such an operation, so all that stands before them counts in full too
last-apart : (op : Operation) (ops : List Operation) → IsNormal (op ∷ ops)
    → (before : List Operation) × (last : Operation) × ((op ∷ ops ≡ before ++ last ∷ []) × ((is_plain last ≡ false) × (0 < op_len last)))
last-apart op [] normal =
    let parts = normal-parts op [] normal in
    ([], op, (refl, (not-true (is_plain op) parts.1, (built-parts op [] parts.0).0)))
last-apart op (next ∷ ops) normal =
    let rest = last-apart next ops (normal-rest op (next ∷ ops) normal) in
    (op ∷ rest.0, rest.1, (ap (λ l. op ∷ l) rest.2.0, rest.2.1))

pub bounded-all : (made : List Operation) (op : Operation) (ops : List Operation) → IsNormal (op ∷ ops) → IsBounded (nf (counted (made ++ op ∷ ops)))
    → (base_of made + base_of (op ∷ ops) ≤ 2 ^ 48) × (out_of made + out_of (op ∷ ops) ≤ 2 ^ 48)
bounded-all made op ops normal bounded =
    let parts = last-apart op ops normal in
    let before : List Operation = parts.0 in
    let last : Operation = parts.1 in
    let same : made ++ op ∷ ops ≡ (made ++ before) ++ last ∷ [] = ap (λ l. made ++ l) parts.2.0 ∙ sym (append_assoc made before (last ∷ [])) in
    let within = bounded-before (made ++ before) last [] parts.2.1.0 parts.2.1.1 (subst (λ l. IsBounded (nf (counted l))) same bounded) in (
      omega (arith, within.0, base_of-append made before, base_of-append before (last ∷ []), ap base_of parts.2.0),
      omega (arith, within.1, out_of-append made before, out_of-append before (last ∷ []), ap out_of parts.2.0),
    )
