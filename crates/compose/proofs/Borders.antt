-- Where the first units of two lists of operations end: whether a pair is cut there.
use Rattle.std.proofs.Common.{◌≡◌, ℕ, zero, suc, ◌-◌, ◌<◌, Bool, true, false, List, [], ◌∷◌, ◌++◌, length, take, drop, refl, sym, ap, ◌∙◌, arith}
use Rattle.std.specs.Prelude.{IsTrue, not, ◌&&◌, slice_index}
use Rattle.std.specs.Char.Utf16.{is_high_surrogate, is_low_surrogate}
use Rattle.std.proofs.Math.Bool.{and-false, and-true}
use Rattle.std.proofs.lemmas.Bool.{not-true}
use Rattle.attributes.specs.Map.{empty}
use Rattle.attributes.specs.Attributes.{Attributes, same_attributes, same_changes, same_attributes-Decides}
use Rattle.delta.specs.Element.{Element, letters, lettered, embedded}
use Rattle.delta.specs.Operation.{Operation, insert_text, insert_embed, retain, delete, is_insert}
use Rattle.delta.specs.Gaps.{Gaps, End, Gap, Fate, Keep, Del, front, counted}
use Rattle.delta.specs.Normal.{IsNormal, is_built, is_apart_text}
use Rattle.delta.proofs.CallerLemmas.{may_lead-retain, built-parts, normal-parts}
use Rattle.compose.specs.Places.{inserts}
use Rattle.compose.specs.steps.PairTest.{same_fate, parts}
use Rattle.compose.proofs.Pairs.{border}

pub inserts-front : (xs : List Element) (g : Gaps) → inserts (front xs g) ≡ xs ++ inserts g
inserts-front xs (End ys) = refl
inserts-front xs (Gap ys f g) = refl

-- what the operation does to each of its units
abbrev pub fate_of : Operation → Fate
fate_of (retain n c) = Keep c
fate_of _ = Del

not-and_left : (t u : Bool) → not t ≡ true → not (t && u) ≡ true
not-and_left true u h = absurd (cc)
not-and_left false u h = refl

not-and_false : (t : Bool) → not (t && false) ≡ true
not-and_false t = ap not (and-false t)

-- something inserted parts what stands beside it
parts-insert : (f : Fate) (x : Element) (xs : List Element) (g : Gaps) → parts f (front (x ∷ xs) g) ≡ true
parts-insert f x xs (End ys) = not-and_false (same_fate f (Keep empty))
parts-insert f x xs (Gap ys e g) = not-and_false (same_fate f e)

-- in normal form, what follows an operation that keeps or deletes is another
pub parts-next : (op : Operation) (ops : List Operation) → IsNormal (op ∷ ops) → is_insert op ≡ false → parts (fate_of op) (counted ops) ≡ true
parts-next (insert_text us a) ops normal stands = absurd (cc)
parts-next (insert_embed key value a) ops normal stands = absurd (cc)
parts-next (retain n c) [] normal stands = not-and_left (same_changes c empty) true (normal-parts (retain n c) [] normal).1
parts-next (delete n) [] normal stands = refl
parts-next op (insert_text [] b ∷ ops) normal stands =
    absurd (omega (arith, (built-parts (insert_text [] b) ops (built-parts op (insert_text [] b ∷ ops) (normal-parts op (insert_text [] b ∷ ops) normal).0).2).0))
parts-next op (insert_text (v ∷ vs) b ∷ ops) normal stands = parts-insert (fate_of op) (lettered v b) (letters vs b) (counted ops)
parts-next op (insert_embed key value b ∷ ops) normal stands = parts-insert (fate_of op) (embedded key value b) [] (counted ops)
parts-next op (retain zero d ∷ ops) normal stands =
    absurd (omega (arith, (built-parts (retain zero d) ops (built-parts op (retain zero d ∷ ops) (normal-parts op (retain zero d ∷ ops) normal).0).2).0))
parts-next op (delete zero ∷ ops) normal stands =
    absurd (omega (arith, (built-parts (delete zero) ops (built-parts op (delete zero ∷ ops) (normal-parts op (delete zero ∷ ops) normal).0).2).0))
parts-next (retain n c) (retain (suc m) d ∷ ops) normal stands =
    let lead = (built-parts (retain n c) (retain (suc m) d ∷ ops) (normal-parts (retain n c) (retain (suc m) d ∷ ops) normal).0).1 in
    not-and_left (same_changes c d) true (sym (may_lead-retain n c (retain (suc m) d ∷ ops)) ∙ lead)
parts-next (retain n c) (delete (suc m) ∷ ops) normal stands = refl
parts-next (delete n) (retain (suc m) d ∷ ops) normal stands = refl
parts-next (delete n) (delete (suc m) ∷ ops) normal stands =
    let lead = (built-parts (delete n) (delete (suc m) ∷ ops) (normal-parts (delete n) (delete (suc m) ∷ ops) normal).0).1 in
    absurd (cc)

-- no pair stands where one text ends and another operation begins
pub border-apart : (us : List ℕ) (a : Attributes) (ops : List Operation) (f : Fate) (h : Gaps) → IsTrue (is_apart_text a ops) → IsTrue (is_built ops) → border (letters us a) (inserts (counted ops)) f h ≡ false
border-apart [] a ops f h apart built = refl
border-apart (u ∷ v ∷ us) a ops f h apart built = border-apart (v ∷ us) a ops f h apart built
border-apart (u ∷ []) a [] f h apart built = refl
border-apart (u ∷ []) a (insert_text [] b ∷ ops) f h apart built = absurd (omega (arith, (built-parts (insert_text [] b) ops built).0))
border-apart (u ∷ []) a (insert_text (v ∷ vs) b ∷ ops) f h apart built =
    ap (λ l. border (lettered u a ∷ []) l f h) (inserts-front (letters (v ∷ vs) b) (counted ops))
    ∙ (ap (λ t. ((is_high_surrogate u && is_low_surrogate v) && t) && parts f h) (not-true (same_attributes a b) apart)
    ∙ ap (λ t. t && parts f h) (and-false (is_high_surrogate u && is_low_surrogate v)))
border-apart (u ∷ []) a (insert_embed key value b ∷ ops) f h apart built =
    ap (λ l. border (lettered u a ∷ []) l f h) (inserts-front (embedded key value b ∷ []) (counted ops))
border-apart (u ∷ []) a (retain zero d ∷ ops) f h apart built = absurd (omega (arith, (built-parts (retain zero d) ops built).0))
border-apart (u ∷ []) a (retain (suc n) d ∷ ops) f h apart built = refl
border-apart (u ∷ []) a (delete zero ∷ ops) f h apart built = absurd (omega (arith, (built-parts (delete zero) ops built).0))
border-apart (u ∷ []) a (delete (suc n) ∷ ops) f h apart built = refl

pub border-embed : (key : List ℕ) (value : Rattle.attributes.specs.Scalar.Scalar) (a : Attributes) (ys : List Element) (f : Fate) (h : Gaps) → border (embedded key value a ∷ []) ys f h ≡ false
border-embed key value a [] f h = refl
border-embed key value a (y ∷ ys) f h = refl

pub border-within : (n : ℕ) (us : List ℕ) (a : Attributes) (zs : List Element) (f : Fate) (h : Gaps) → 0 < n → n < length us
    → border (letters (take n us) a) (letters (drop n us) a ++ zs) f h ≡ ((is_high_surrogate (slice_index us (n - 1)) && is_low_surrogate (slice_index us n)) && parts f h)
border-within zero us a zs f h some within = absurd (omega arith)
border-within (suc n) [] a zs f h some within = absurd (omega arith)
border-within (suc n) (u ∷ []) a zs f h some within = absurd (omega arith)
border-within (suc zero) (u ∷ v ∷ us) a zs f h some within =
    ap (λ t. ((is_high_surrogate u && is_low_surrogate v) && t) && parts f h) ((same_attributes-Decides a a).1 refl)
    ∙ ap (λ t. t && parts f h) (and-true (is_high_surrogate u && is_low_surrogate v))
border-within (suc (suc n)) (u ∷ v ∷ us) a zs f h some within =
    let before : suc n - 1 ≡ n = omega arith in
    let here : suc (suc n) - 1 ≡ suc n = omega arith in
    border-within (suc n) (v ∷ us) a zs f h (omega arith) (omega arith)
    ∙ ap (λ k. (is_high_surrogate k && is_low_surrogate (slice_index (v ∷ us) (suc n))) && parts f h)
    (ap (slice_index (v ∷ us)) before ∙ sym (ap (slice_index (u ∷ v ∷ us)) here))
