-- Where a pair of a document is cut, place by place.
use Rattle.std.proofs.Common.{◌≡◌, ◌≢◌, ℕ, zero, suc, ◌⊎◌, inl, inr, Bool, true, false, List, [], ◌∷◌, refl, sym, ap, ◌∙◌}
use Rattle.std.specs.Prelude.{not, ◌&&◌, ◌||◌}
use Rattle.std.specs.Char.Utf16.{is_high_surrogate, is_low_surrogate}
use Rattle.std.proofs.lemmas.Bool.{and_parts, and_from, or_left, or_right}
use Rattle.attributes.specs.Attributes.{same_attributes, same_attributes-Decides, same_changes-Decides}
use Rattle.delta.specs.Element.{Element, Item, code_unit, embed}
use Rattle.delta.specs.Operation.{Operation}
use Rattle.delta.specs.Gaps.{Gaps, End, Gap, Fate, Del, Keep, counted}
use Rattle.document.specs.Pairs.{IsHighItem, IsLowItem, IsPair, IsPairAt}
use Rattle.document.specs.Places.{Cuts}
use Rattle.delta.specs.Places.{fate_at, inserted_at}
use Rattle.compose.specs.Composed.{beyond}
use Rattle.compose.specs.Laws.{CutsOfUnits, CutsOfInserted}
use Rattle.compose.specs.Cuts.{CutsInserted, CutsText}
use Rattle.compose.specs.Places.{inserts, fate, tail}
use Rattle.compose.specs.steps.PairTest.{are_high_and_low, is_pair, same_fate, is_nothing, parts, cuts_units, cuts}

-- pairs, by tests and by facts
pair-items : (i j : Item) → are_high_and_low i j ≡ true → IsHighItem i × IsLowItem j
pair-items (code_unit u) (code_unit v) e = and_parts (is_high_surrogate u) (is_low_surrogate v) e
pair-items (code_unit u) (embed key value) e = absurd (cc)
pair-items (embed key value) j e = absurd (cc)

items-pair : (i j : Item) → IsHighItem i → IsLowItem j → are_high_and_low i j ≡ true
items-pair (code_unit u) (code_unit v) high low = and_from (is_high_surrogate u) (is_low_surrogate v) high low
items-pair (code_unit u) (embed key value) high low = absurd low
items-pair (embed key value) j high low = absurd high

pub pair-fact : (x y : Element) → is_pair x y ≡ true → IsPair x y
pair-fact x y e =
    let p = and_parts (are_high_and_low x.item y.item) (same_attributes x.attributes y.attributes) e in
    let items = pair-items x.item y.item p.0 in
    (items.0, items.1, (same_attributes-Decides x.attributes y.attributes).0 p.1)

pub fact-pair : (x y : Element) → IsPair x y → is_pair x y ≡ true
fact-pair x y p =
    and_from (are_high_and_low x.item y.item) (same_attributes x.attributes y.attributes) (items-pair x.item y.item p.0 p.1) ((same_attributes-Decides x.attributes y.attributes).1 p.2)

-- fates and inserts, by tests and by facts
pub fate-itself : (f : Fate) → same_fate f f ≡ true
fate-itself Del = refl
fate-itself (Keep c) = (same_changes-Decides c c).1 refl

pub fate-fact : (f g : Fate) → same_fate f g ≡ true → f ≡ g
fate-fact Del Del e = refl
fate-fact Del (Keep d) e = absurd (cc)
fate-fact (Keep c) Del e = absurd (cc)
fate-fact (Keep c) (Keep d) e = ap Keep ((same_changes-Decides c d).0 e)

pub nothing-fact : (xs : List Element) → is_nothing xs ≡ true → xs ≡ []
nothing-fact [] e = refl
nothing-fact (x ∷ xs) e = absurd (cc)

not-both : (s t : Bool) → not (s && t) ≡ true → (s ≡ false) ⊎ (t ≡ false)
not-both true true e = absurd (cc)
not-both true false e = inr refl
not-both false t e = inl refl

parts-fact : (f g : Fate) (xs : List Element) → not (same_fate f g && is_nothing xs) ≡ true → (f ≢ g) ⊎ (xs ≢ [])
parts-fact f g xs e =
    elim (not-both (same_fate f g) (is_nothing xs) e) [
      | inl apart ↦ inl (λ same. let one = ap (same_fate f) (sym same) ∙ fate-itself f in let two = ap (same_fate f) same in let three = fate-itself f in absurd (cc))
      | inr some ↦ inr (λ none. let one = ap is_nothing none in absurd (cc))
    ]

fact-parts : (f g : Fate) (xs : List Element) → (f ≢ g) ⊎ (xs ≢ []) → not (same_fate f g && is_nothing xs) ≡ true
fact-parts f g xs (inl apart) =
    elim (same_fate f g) as (λ t. same_fate f g ≡ t → not (t && is_nothing xs) ≡ true) [ true ↦ λ e. absurd (apart (fate-fact f g e)) | false ↦ λ e. refl ] refl
fact-parts f g xs (inr some) =
    elim (is_nothing xs) as (λ t. is_nothing xs ≡ t → not (same_fate f g && t) ≡ true) [
      | true ↦ λ e. absurd (some (nothing-fact xs e))
      | false ↦ λ e. elim (same_fate f g) as (λ s. not (s && false) ≡ true) [ true ↦ refl | false ↦ refl ]
    ] refl

-- the places of a gap form
fate_at-first : (g : Gaps) → fate_at g 0 ≡ fate g
fate_at-first (End xs) = refl
fate_at-first (Gap xs f g) = refl

fate_at-rest : (g : Gaps) (i : ℕ) → fate_at g (suc i) ≡ fate_at (tail g) i
fate_at-rest (End xs) i = refl
fate_at-rest (Gap xs f g) i = refl

inserted_at-first : (g : Gaps) → inserted_at g 0 ≡ inserts g
inserted_at-first (End xs) = refl
inserted_at-first (Gap xs f g) = refl

inserted_at-rest : (g : Gaps) (i : ℕ) → inserted_at g (suc i) ≡ inserted_at (tail g) i
inserted_at-rest (End xs) zero = refl
inserted_at-rest (End xs) (suc i) = refl
inserted_at-rest (Gap xs f g) i = refl

abbrev Parted : Gaps → ℕ → Type 0
Parted g i = (fate_at g i ≢ fate_at g (suc i)) ⊎ (inserted_at g (suc i) ≢ [])

parted-same : (f f' k k' : Fate) (xs xs' : List Element) → f ≡ f' → k ≡ k' → xs ≡ xs' → (f ≢ k) ⊎ (xs ≢ []) → (f' ≢ k') ⊎ (xs' ≢ [])
parted-same f f' k k' xs xs' p q r (inl apart) = inl (λ e. apart (p ∙ (e ∙ sym q)))
parted-same f f' k k' xs xs' p q r (inr some) = inr (λ e. some (r ∙ e))

parted-rest : (g : Gaps) (i : ℕ) → Parted (tail g) i → Parted g (suc i)
parted-rest g i h =
    parted-same (fate_at (tail g) i) (fate_at g (suc i)) (fate_at (tail g) (suc i)) (fate_at g (suc (suc i))) (inserted_at (tail g) (suc i)) (inserted_at g (suc (suc i)))
    (sym (fate_at-rest g i)) (sym (fate_at-rest g (suc i))) (sym (inserted_at-rest g (suc i))) h

rest-parted : (g : Gaps) (i : ℕ) → Parted g (suc i) → Parted (tail g) i
rest-parted g i h =
    parted-same (fate_at g (suc i)) (fate_at (tail g) i) (fate_at g (suc (suc i))) (fate_at (tail g) (suc i)) (inserted_at g (suc (suc i))) (inserted_at (tail g) (suc i))
    (fate_at-rest g i) (fate_at-rest g (suc i)) (inserted_at-rest g (suc i)) h

parted-first : (g : Gaps) → parts (fate g) (tail g) ≡ true → Parted g 0
parted-first g e =
    parted-same (fate g) (fate_at g 0) (fate (tail g)) (fate_at g 1) (inserts (tail g)) (inserted_at g 1)
    (sym (fate_at-first g)) (sym (fate_at-first (tail g)) ∙ sym (fate_at-rest g 0)) (sym (inserted_at-first (tail g)) ∙ sym (inserted_at-rest g 0))
    (parts-fact (fate g) (fate (tail g)) (inserts (tail g)) e)

first-parted : (g : Gaps) → Parted g 0 → parts (fate g) (tail g) ≡ true
first-parted g h =
    fact-parts (fate g) (fate (tail g)) (inserts (tail g))
    (parted-same (fate_at g 0) (fate g) (fate_at g 1) (fate (tail g)) (inserted_at g 1) (inserts (tail g))
    (fate_at-first g) (fate_at-rest g 0 ∙ fate_at-first (tail g)) (inserted_at-rest g 0 ∙ inserted_at-first (tail g)) h)

-- a cut, by the test and place by place
or-cases : (s t : Bool) → (s || t) ≡ true → (s ≡ true) ⊎ (t ≡ true)
or-cases true t e = inl refl
or-cases false t e = inr e

pub cut-there : (d : List Element) (g : Gaps) → cuts_units d g ≡ true → Cuts d g
cut-there [] g e = absurd (cc)
cut-there (x ∷ []) g e = absurd (cc)
cut-there (x ∷ y ∷ d) g e =
    elim (or-cases (is_pair x y && parts (fate g) (tail g)) (cuts_units (y ∷ d) (tail g)) e) [
      | inl here ↦ let p = and_parts (is_pair x y) (parts (fate g) (tail g)) here in (0, pair-fact x y p.0, parted-first g p.1)
      | inr later ↦ let c = cut-there (y ∷ d) (tail g) later in (suc c.0, c.1, parted-rest g c.0 c.2)
    ]

there-cut : (d : List Element) (g : Gaps) (i : ℕ) → IsPairAt d i → Parted g i → cuts_units d g ≡ true
there-cut [] g i pair parted = absurd pair
there-cut (x ∷ []) g i pair parted = absurd pair
there-cut (x ∷ y ∷ d) g zero pair parted =
    or_left (is_pair x y && parts (fate g) (tail g)) (cuts_units (y ∷ d) (tail g)) (and_from (is_pair x y) (parts (fate g) (tail g)) (fact-pair x y pair) (first-parted g parted))
there-cut (x ∷ y ∷ d) g (suc i) pair parted =
    or_right (is_pair x y && parts (fate g) (tail g)) (cuts_units (y ∷ d) (tail g)) (there-cut (y ∷ d) (tail g) i pair (rest-parted g i parted))

pub units-cut : (d : List Element) (g : Gaps) → Cuts d g → cuts_units d g ≡ true
units-cut d g cut = there-cut d g cut.0 cut.1 cut.2

-- the test tells where the text that another inserts is cut
pub cut-text : (a b : Gaps) → cuts a b ≡ true → CutsInserted a b
cut-text (End xs) b e = cut-there xs b e
cut-text (Gap xs Del g) b e =
    elim (or-cases (cuts_units xs b) (cuts g (beyond xs b)) e) [
      | inl here ↦ inl (cut-there xs b here)
      | inr later ↦ inr (cut-text g (beyond xs b) later)
    ]
cut-text (Gap xs (Keep c) g) b e =
    elim (or-cases (cuts_units xs b) (cuts g (tail (beyond xs b))) e) [
      | inl here ↦ inl (cut-there xs b here)
      | inr later ↦ inr (cut-text g (tail (beyond xs b)) later)
    ]

text-there : (a b : Gaps) → CutsInserted a b → cuts a b ≡ true
text-there (End xs) b cut = units-cut xs b cut
text-there (Gap xs Del g) b (inl here) = or_left (cuts_units xs b) (cuts g (beyond xs b)) (units-cut xs b here)
text-there (Gap xs Del g) b (inr later) = or_right (cuts_units xs b) (cuts g (beyond xs b)) (text-there g (beyond xs b) later)
text-there (Gap xs (Keep c) g) b (inl here) = or_left (cuts_units xs b) (cuts g (tail (beyond xs b))) (units-cut xs b here)
text-there (Gap xs (Keep c) g) b (inr later) = or_right (cuts_units xs b) (cuts g (tail (beyond xs b))) (text-there g (tail (beyond xs b)) later)

pub cuts_of_units : CutsOfUnits
cuts_of_units d g = (cut-there d g, units-cut d g)

pub cuts_of_inserted : CutsOfInserted
cuts_of_inserted a b = (cut-text a b, text-there a b)

pub text-cut : (first second : List Operation) → CutsText first second → cuts (counted first) (counted second) ≡ true
text-cut first second cut = text-there (counted first) (counted second) cut
