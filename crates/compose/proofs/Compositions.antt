-- One gap form for two, and its effect.
use Rattle.std.proofs.Common.{◌≡◌, ◌+◌, ◌≤◌, List, [], ◌∷◌, ◌++◌, length, refl, sym, ap, ◌∙◌, arith}
use Rattle.std.proofs.lemmas.List.{append_assoc}
use Rattle.attributes.specs.Attributes.{Changes, changed}
use Rattle.attributes.proofs.CallerLemmas.{changed-changed}
use Rattle.delta.specs.Element.{Element}
use Rattle.delta.specs.Operation.{base_of}
use Rattle.delta.specs.Gaps.{Gaps, End, Gap, Fate, Del, Keep, fated, apply, counted}
use Rattle.delta.specs.Places.{IsDefined}
use Rattle.delta.proofs.CallerLemmas.{apply-front, changed-empty, apply-nf, units_below-counted, IsNormal-nf, length-apply_counted, same_effect_from}
use Rattle.compose.specs.Places.{inserts, fate, tail}
use Rattle.compose.specs.Composed.{units_after, beyond, kept_then, composed}
use Rattle.compose.specs.Laws.{EffectOfComposed, ComposesByNormal, ComposesOnce}

-- the first unit of a document under a gap form
pub apply-first : (x : Element) (d : List Element) (b : Gaps) → apply (x ∷ d) b ≡ inserts b ++ (fated (fate b) x ++ apply d (tail b))
apply-first x d (End ys) = ap (λ a. ys ++ record x { attributes = a } ∷ d) (sym (changed-empty x.attributes))
apply-first x d (Gap ys f h) = refl

-- the first units of a document under a gap form
pub apply-laid : (xs : List Element) (d : List Element) (b : Gaps) → apply (xs ++ d) b ≡ units_after xs b ++ apply d (beyond xs b)
apply-laid [] d b = refl
apply-laid (x ∷ xs) d b =
    apply-first x (xs ++ d) b
    ∙ (ap (λ l. inserts b ++ (fated (fate b) x ++ l)) (apply-laid xs d (tail b))
    ∙ simp append_assoc)

-- a kept unit, and then its second fate
fated-kept : (c : Changes) (f : Fate) (x : Element) → fated (kept_then c f) x ≡ fated f (record x { attributes = changed x.attributes c })
fated-kept c Del x = refl
fated-kept c (Keep d) x = ap (λ a. record x { attributes = a } ∷ []) (sym (changed-changed x.attributes c d))

pub apply-composed : EffectOfComposed
apply-composed d (End xs) b long = apply-front d (units_after xs b) (beyond xs b) ∙ sym (apply-laid xs d b)
apply-composed [] (Gap xs f g) b long = absurd (omega (arith, long))
apply-composed (x ∷ d) (Gap xs Del g) b long =
    apply-front (x ∷ d) (units_after xs b) (Gap [] Del (composed g (beyond xs b)))
    ∙ (ap (λ l. units_after xs b ++ l) (apply-composed d g (beyond xs b) (omega (arith, long)))
    ∙ sym (apply-laid xs (apply d g) b))
apply-composed (x ∷ d) (Gap xs (Keep c) g) b long =
    let r : Gaps = beyond xs b in
    let y : Element = record x { attributes = changed x.attributes c } in
    apply-front (x ∷ d) (units_after xs b) (Gap (inserts r) (kept_then c (fate r)) (composed g (tail r)))
    ∙ (ap (λ l. units_after xs b ++ (inserts r ++ (l ++ apply d (composed g (tail r))))) (fated-kept c (fate r) x)
    ∙ (ap (λ l. units_after xs b ++ (inserts r ++ (fated (fate r) y ++ l))) (apply-composed d g (tail r) (omega (arith, long)))
    ∙ (ap (λ l. units_after xs b ++ l) (sym (apply-first y (apply d g) r))
    ∙ sym (apply-laid xs (y ∷ apply d g) b))))

pub composes_by_normal : ComposesByNormal
composes_by_normal a b = record {
  normal = IsNormal-nf (composed (counted a) (counted b));
  effect = λ d long _. apply-nf d (composed (counted a) (counted b)) ∙ apply-composed d (counted a) (counted b) long;
}

pub composes_once : ComposesOnce
composes_once c e a b first second =
    same_effect_from (base_of a + base_of b) c e first.normal second.normal (λ d long.
    let long_a : base_of a ≤ length d = omega (arith, long) in
    let long_b : base_of b ≤ length (apply d (counted a)) = omega (arith, long, length-apply_counted d a long_a) in
    let defined_a : IsDefined d (counted a) = omega (arith, long_a, units_below-counted a) in
    let defined_b : IsDefined (apply d (counted a)) (counted b) = omega (arith, long_b, units_below-counted b) in
    first.effect d defined_a defined_b ∙ sym (second.effect d defined_a defined_b))
