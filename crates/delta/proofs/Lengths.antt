-- Base and output lengths: of an append, of the built and the normal form, and of a document after a delta.
use Rattle.std.proofs.Common.{◌≡◌, ℕ, zero, suc, ◌+◌, ◌-◌, ◌≤◌, true, false, cond, List, [], ◌∷◌, ◌++◌, length, refl, sym, ap, subst, ◌∙◌, arith}
use Rattle.std.proofs.lemmas.List.{length-append, length-map}
use Rattle.attributes.specs.Map.{empty}
use Rattle.attributes.specs.Attributes.{Changes, same_changes}
use Rattle.delta.specs.Element.{Element, letters, lettered, embedded}
use Rattle.delta.specs.Operation.{Operation, insert_text, insert_embed, retain, delete, base_of, out_of, IsBounded}
pub use Rattle.delta.specs.Gaps.{units_kept, units_made}
use Rattle.delta.specs.Gaps.{Gaps, End, Gap, Fate, Del, Keep, front, run, fated, apply, counted, units_below}
use Rattle.delta.specs.Normal.{past, settled, trim, trimmed, spelled, nf, built}
use Rattle.delta.proofs.Joins.{units_below-front, units_below-counted}
use Rattle.delta.proofs.Spellings.{counted-spelled}

pub base_of-append : (a b : List Operation) → base_of (a ++ b) ≡ base_of a + base_of b
base_of-append [] b = omega arith
base_of-append (op ∷ a) b = omega (arith, base_of-append a b)

pub out_of-append : (a b : List Operation) → out_of (a ++ b) ≡ out_of a + out_of b
out_of-append [] b = omega arith
out_of-append (op ∷ a) b = omega (arith, out_of-append a b)

pub units_made-front : (xs : List Element) (g : Gaps) → units_made (front xs g) ≡ length xs + units_made g
units_made-front xs (End ys) = length-append xs ys
units_made-front xs (Gap ys f g) = omega (arith, length-append xs ys)

pub units_made-keeps : (n : ℕ) (c : Changes) (g : Gaps) → units_made (run n (Keep c) g) ≡ n + units_made g
units_made-keeps zero c g = omega arith
units_made-keeps (suc n) c g = omega (arith, units_made-keeps n c g)

pub units_made-deletes : (n : ℕ) (g : Gaps) → units_made (run n Del g) ≡ units_made g
units_made-deletes zero g = refl
units_made-deletes (suc n) g = omega (arith, units_made-deletes n g)

pub units_made-counted : (ops : List Operation) → units_made (counted ops) ≡ out_of ops
units_made-counted [] = refl
units_made-counted (insert_text us a ∷ ops) =
    omega (arith, units_made-front (letters us a) (counted ops), length-map us (λ u. lettered u a), units_made-counted ops)
units_made-counted (insert_embed key value a ∷ ops) =
    omega (arith, units_made-front (embedded key value a ∷ []) (counted ops), units_made-counted ops)
units_made-counted (retain n c ∷ ops) = omega (arith, units_made-keeps n c (counted ops), units_made-counted ops)
units_made-counted (delete n ∷ ops) = units_made-deletes n (counted ops) ∙ omega (arith, units_made-counted ops)

pub base_of-spelled : (g : Gaps) → base_of (spelled g) ≡ units_below g
base_of-spelled g = sym (units_below-counted (spelled g)) ∙ ap units_below (counted-spelled g)

pub out_of-spelled : (g : Gaps) → out_of (spelled g) ≡ units_made g
out_of-spelled g = sym (units_made-counted (spelled g)) ∙ ap units_made (counted-spelled g)

-- settling keeps both
units_below-past : (f : Fate) (g : Gaps) → units_below (past f g) ≡ suc (units_below g)
units_below-past (Keep c) g = refl
units_below-past Del (End ys) = refl
units_below-past Del (Gap ys f g) = refl

units_made-past : (f : Fate) (g : Gaps) → units_made (past f g) ≡ units_kept f + units_made g
units_made-past (Keep c) g = omega arith
units_made-past Del (End ys) = omega arith
units_made-past Del (Gap ys f g) = omega arith

pub units_below-settled : (g : Gaps) → units_below (settled g) ≡ units_below g
units_below-settled (End xs) = refl
units_below-settled (Gap xs f g) =
    units_below-front xs (past f (settled g)) ∙ (units_below-past f (settled g) ∙ ap (λ n. suc n) (units_below-settled g))

pub units_made-settled : (g : Gaps) → units_made (settled g) ≡ units_made g
units_made-settled (End xs) = refl
units_made-settled (Gap xs f g) =
    units_made-front xs (past f (settled g)) ∙ (ap (λ n. length xs + n) (units_made-past f (settled g)) ∙ ap (λ n. length xs + (units_kept f + n)) (units_made-settled g))

-- trimming takes the same from both
record Trims (before after : Gaps) : Type 0 where
  below : units_below after ≤ units_below before
  alike : units_below after + units_made before ≡ units_below before + units_made after

trims-trim : (xs : List Element) (f : Fate) (g : Gaps) → Trims (Gap xs f g) (trim xs f g)
trims-trim xs (Keep c) (End []) =
    elim (same_changes c empty) as (λ t. Trims (Gap xs (Keep c) (End [])) (cond t (End xs) (Gap xs (Keep c) (End [])))) [
      | true ↦ record { below = omega arith; alike = omega arith }
      | false ↦ record { below = omega arith; alike = refl }
    ]
trims-trim xs (Keep c) (End (y ∷ ys)) = record { below = omega arith; alike = refl }
trims-trim xs (Keep c) (Gap ys f g) = record { below = omega arith; alike = refl }
trims-trim xs Del g = record { below = omega arith; alike = refl }

trims-trimmed : (g : Gaps) → Trims g (trimmed g)
trims-trimmed (End xs) = record { below = omega arith; alike = refl }
trims-trimmed (Gap xs f g) =
    let rest = trims-trimmed g in
    let last = trims-trim xs f (trimmed g) in
    record { below = omega (arith, rest.below, last.below); alike = omega (arith, rest.alike, last.alike) }

-- the lengths of the built and the normal form
pub lengths-built : (ops : List Operation) → (base_of (built ops) ≡ base_of ops) × (out_of (built ops) ≡ out_of ops)
lengths-built ops = (
  base_of-spelled (settled (counted ops)) ∙ (units_below-settled (counted ops) ∙ units_below-counted ops),
  out_of-spelled (settled (counted ops)) ∙ (units_made-settled (counted ops) ∙ units_made-counted ops),
)

pub base_of-nf : (g : Gaps) → base_of (nf g) ≤ units_below g
base_of-nf g = omega (arith, base_of-spelled (trimmed (settled g)), (trims-trimmed (settled g)).below, units_below-settled g)

pub lengths-nf : (ops : List Operation) → (base_of (nf (counted ops)) ≤ base_of ops) × (base_of (nf (counted ops)) + out_of ops ≡ base_of ops + out_of (nf (counted ops)))
lengths-nf ops =
    let g : Gaps = counted ops in
    let trims = trims-trimmed (settled g) in (
      omega (arith, base_of-nf g, units_below-counted ops),
      omega (arith, trims.alike, base_of-spelled (trimmed (settled g)), out_of-spelled (trimmed (settled g)), units_below-settled g, units_made-settled g, units_below-counted ops, units_made-counted ops),
    )

-- so what was within the bound stays within
pub IsBounded-built : (ops : List Operation) → IsBounded ops → IsBounded (built ops)
IsBounded-built ops h =
    let same = lengths-built ops in
    record { base = rw same.0 h.base; out = rw same.1 h.out }

pub IsBounded-nf : (ops : List Operation) → IsBounded ops → IsBounded (nf (counted ops))
IsBounded-nf ops h =
    let less = lengths-nf ops in
    record { base = omega (arith, less.0, h.base); out = omega (arith, less.0, less.1, h.out) }

-- the length of a document after a delta
pub length-fated : (f : Fate) (x : Element) → length (fated f x) ≡ units_kept f
length-fated Del x = refl
length-fated (Keep c) x = refl

pub length-apply : (d : List Element) (g : Gaps) → units_below g ≤ length d → length (apply d g) + units_below g ≡ length d + units_made g
length-apply d (End xs) long = omega (arith, length-append xs d)
length-apply [] (Gap xs f g) long = absurd (omega (arith, long))
length-apply (x ∷ d) (Gap xs f g) long =
    let rest = length-apply d g (omega (arith, long)) in
    omega (arith, rest, length-append xs (fated f x ++ apply d g), length-append (fated f x) (apply d g), length-fated f x)

pub length-apply_counted : (d : List Element) (ops : List Operation) → base_of ops ≤ length d → length (apply d (counted ops)) ≡ length d - base_of ops + out_of ops
length-apply_counted d ops long =
    let base = units_below-counted ops in
    let enough : units_below (counted ops) ≤ length d = subst (λ n. n ≤ length d) (sym base) long in
    omega (arith, length-apply d (counted ops) enough, base, units_made-counted ops, long)
