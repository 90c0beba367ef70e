-- How many units a composition speaks of and makes, and when it passes the bound.
use Rattle.std.proofs.Common.{◌≡◌, suc, ◌+◌, ◌≤◌, List, [], ◌∷◌, ◌++◌, length, length-append, refl, sym, ap, ◌∙◌, arith}
use Rattle.attributes.specs.Attributes.{Changes}
use Rattle.delta.specs.Element.{Element}
use Rattle.delta.specs.Operation.{Operation, base_of, out_of}
use Rattle.delta.specs.Gaps.{Gaps, End, Gap, Fate, Del, Keep, fated, counted, joined, units_below, units_made, units_kept}
use Rattle.delta.specs.Normal.{settled, spelled, nf}
use Rattle.delta.proofs.CallerLemmas.{units_below-front, units_below-counted, counted-spelled, units_made-counted, units_below-settled, units_made-settled, base_of-spelled, out_of-spelled, lengths-nf, length-fated}
use Rattle.compose.specs.Places.{inserts, fate, tail}
use Rattle.compose.specs.Composed.{units_after, beyond, kept_then, composed, one_for}
pub use Rattle.delta.proofs.CallerLemmas.{units_made-front as made-front}

-- one after the other
pub below-joined : (g h : Gaps) → units_below (joined g h) ≡ units_below g + units_below h
below-joined (End xs) h = omega (arith, units_below-front xs h)
below-joined (Gap xs f g) h = omega (arith, below-joined g h)

pub made-joined : (g h : Gaps) → units_made (joined g h) ≡ units_made g + units_made h
made-joined (End xs) h = made-front xs h
made-joined (Gap xs f g) h = omega (arith, made-joined g h)

-- settled to the same
pub below-same : (g h : Gaps) → settled g ≡ settled h → units_below g ≡ units_below h
below-same g h same = sym (units_below-settled g) ∙ (ap units_below same ∙ units_below-settled h)

pub made-same : (g h : Gaps) → settled g ≡ settled h → units_made g ≡ units_made h
made-same g h same = sym (units_made-settled g) ∙ (ap units_made same ∙ units_made-settled h)

-- the normal form speaks of no more and makes no more
pub lengths-normal : (g : Gaps) → (base_of (nf g) ≤ units_below g) × (out_of (nf g) ≤ units_made g)
lengths-normal g =
    let lengths = lengths-nf (spelled g) in
    let same = counted-spelled g in (
      omega (arith, lengths.0, ap (λ h. base_of (nf h)) same, base_of-spelled g),
      omega (arith, lengths.0, lengths.1, ap (λ h. base_of (nf h)) same, ap (λ h. out_of (nf h)) same, out_of-spelled g),
    )

-- one gap form for two speaks of no more than both, and makes no more
below-tail : (b : Gaps) → units_below (tail b) ≤ units_below b
below-tail (End xs) = omega arith
below-tail (Gap xs f g) = omega arith

below-beyond : (xs : List Element) (b : Gaps) → units_below (beyond xs b) ≤ units_below b
below-beyond [] b = omega arith
below-beyond (x ∷ xs) b = omega (arith, below-beyond xs (tail b), below-tail b)

pub below-composed : (a b : Gaps) → units_below (composed a b) ≤ units_below a + units_below b
below-composed (End xs) b = omega (arith, units_below-front (units_after xs b) (beyond xs b), below-beyond xs b)
below-composed (Gap xs Del g) b =
    let r : Gaps = beyond xs b in
    omega (arith, units_below-front (units_after xs b) (Gap [] Del (composed g r)), below-composed g r, below-beyond xs b)
below-composed (Gap xs (Keep c) g) b =
    let r : Gaps = beyond xs b in
    omega (arith, units_below-front (units_after xs b) (Gap (inserts r) (kept_then c (fate r)) (composed g (tail r))), below-composed g (tail r), below-tail r, below-beyond xs b)

kept-then : (c : Changes) (f : Fate) → units_kept (kept_then c f) ≡ units_kept f
kept-then c Del = refl
kept-then c (Keep d) = refl

made-first : (b : Gaps) → length (inserts b) + (units_kept (fate b) + units_made (tail b)) ≤ suc (units_made b)
made-first (End xs) = omega arith
made-first (Gap xs f g) = omega arith

made-after : (xs : List Element) (b : Gaps) → length (units_after xs b) + units_made (beyond xs b) ≤ length xs + units_made b
made-after [] b = omega arith
made-after (x ∷ xs) b =
    omega
    (arith, length-append (inserts b) (fated (fate b) x ++ units_after xs (tail b)), length-append (fated (fate b) x) (units_after xs (tail b)), length-fated (fate b) x, made-first b, made-after xs (tail b))

pub made-composed : (a b : Gaps) → units_made (composed a b) ≤ units_made a + units_made b
made-composed (End xs) b = omega (arith, made-front (units_after xs b) (beyond xs b), made-after xs b)
made-composed (Gap xs Del g) b =
    let r : Gaps = beyond xs b in
    omega (arith, made-front (units_after xs b) (Gap [] Del (composed g r)), made-composed g r, made-after xs b)
made-composed (Gap xs (Keep c) g) b =
    let r : Gaps = beyond xs b in
    omega (arith, made-front (units_after xs b) (Gap (inserts r) (kept_then c (fate r)) (composed g (tail r))), made-composed g (tail r), made-after xs b, made-first r, kept-then c (fate r))

-- and so for operations
pub lengths-one : (a b : List Operation) → (base_of (one_for a b) ≤ base_of a + base_of b) × (out_of (one_for a b) ≤ out_of a + out_of b)
lengths-one a b =
    let normal = lengths-normal (composed (counted a) (counted b)) in (
      omega (arith, normal.0, below-composed (counted a) (counted b), units_below-counted a, units_below-counted b),
      omega (arith, normal.1, made-composed (counted a) (counted b), units_made-counted a, units_made-counted b),
    )
