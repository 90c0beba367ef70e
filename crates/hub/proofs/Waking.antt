-- Lists that are made anew from the left, place by place: who is told of what is settled, and what is noted from then on.
use Rattle.std.proofs.Common.{◌≡◌, ◌<◌, ◌≤◌, ◌+◌, ◌++◌, ℕ, zero, suc, Bool, true, false, List, [], ◌∷◌, length, take, drop, set, get_or, map, refl, sym, ap, subst, ◌∙◌, inl, inr, add-one, append-nil, arith}
use Rattle.std.specs.Prelude.{replicate, nat_le, if◌then◌else◌}
use Rattle.std.proofs.lemmas.List.{length-replicate, get_or-replicate, set-get_or, take_all, drop_all}
use Rattle.std.proofs.lemmas.Bool.{le-leb}
use Rattle.std.proofs.lemmas.Bool.Decides.{leb_tells}
use Rattle.hub.specs.declared.waiting.Awaited.{Awaited}
use Rattle.hub.specs.Waiting.{AreWoken, nobody, is_covered, rest_of, still_awaited, IsNoted, NobodyIsForgotten}

-- its first places are made of the one list, and the others are of the other
abbrev pub made : {A B : Type 0} → (A → B) → ℕ → List A → List B → List B
made f i xs ys = map f (take i xs) ++ drop i ys

made-set : {A B : Type 0} (f : A → B) (i : ℕ) (xs : List A) (ys : List B) (d : A) → i < length xs → length xs ≡ length ys
    → set (made f i xs ys) i (f (get_or xs i d)) ≡ made f (suc i) xs ys
made-set f i [] ys d within same = absurd (omega arith)
made-set f i (first ∷ others) [] d within same = absurd (omega (arith, same))
made-set f zero (first ∷ others) (one ∷ more) d within same = refl
made-set {A} {B} f (suc i) (first ∷ others) (one ∷ more) d within same = ap (λ (l : List B). f first ∷ l) (made-set f i others more d (omega arith) (omega (arith, same)))

-- the next place is made
made_next : {A B : Type 0} (f : A → B) (i : ℕ) (xs : List A) (ys : List B) (d : A) → i < length xs → length xs ≡ length ys
    → set (made f i xs ys) i (f (get_or xs i d)) ≡ made f (i + 1) xs ys
made_next f i xs ys d within same = rw add-one (made-set f i xs ys d within same)

made_at : {A B : Type 0} (f : A → B) (i : ℕ) (xs : List A) (ys : List B) (d : B) → i < length xs → length xs ≡ length ys
    → get_or (made f i xs ys) i d ≡ get_or ys i d
made_at f i [] ys d within same = absurd (omega arith)
made_at f i (first ∷ others) [] d within same = absurd (omega (arith, same))
made_at f zero (first ∷ others) (one ∷ more) d within same = refl
made_at f (suc i) (first ∷ others) (one ∷ more) d within same = made_at f i others more d (omega arith) (omega (arith, same))

-- the next place is the same, made or not
made_keep : {A B : Type 0} (f : A → B) (i : ℕ) (xs : List A) (ys : List B) (d : A) (e : B) → i < length xs → length xs ≡ length ys
    → f (get_or xs i d) ≡ get_or ys i e → made f i xs ys ≡ made f (i + 1) xs ys
made_keep f i xs ys d e within same is =
    sym (set-get_or (made f i xs ys) i e) ∙ ap (set (made f i xs ys) i) (made_at f i xs ys e within same ∙ sym is) ∙ made_next f i xs ys d within same

-- what an index out of range would read
abbrev pub none : Awaited
none = record { least = 0; most = 0 }

-- How far the places are gone through; each is looked at by what is awaited there.
module _ (settled i : ℕ) (old now now' : List Awaited) (told told' : List Bool) (long : length old ≡ 64) (within : i < 64)
    (told_is : told ≡ made (is_covered settled) i old (replicate 64 false)) (now_is : now ≡ made (still_awaited settled) i old old) where
  inside : i < length old
  inside = omega (arith, within, long)

  as_long : length old ≡ length (replicate 64 false)
  as_long = long ∙ sym (length-replicate 64 false)

  here : get_or now i none ≡ get_or old i none
  here = ap (λ (l : List Awaited). get_or l i none) now_is ∙ made_at (still_awaited settled) i old old none inside refl

  pub woken_here : (get_or now i none).least ≤ settled → now' ≡ set now i (rest_of settled (get_or now i none)) → told' ≡ set told i true
      → (told' ≡ made (is_covered settled) (i + 1) old (replicate 64 false)) × (now' ≡ made (still_awaited settled) (i + 1) old old)
  woken_here most now_next told_next =
      let least : (get_or old i none).least ≤ settled = subst (λ (a : Awaited). a.least ≤ settled) here most in
      let is : is_covered settled (get_or old i none) ≡ true = le-leb (get_or old i none).least settled least in
      let left : still_awaited settled (get_or old i none) ≡ rest_of settled (get_or old i none) =
      ap (λ (b : Bool). if b then rest_of settled (get_or old i none) else get_or old i none) is in (
        told_next ∙ ap (λ (l : List Bool). set l i true) told_is ∙ ap (set (made (is_covered settled) i old (replicate 64 false)) i) (sym is)
            ∙ made_next (is_covered settled) i old (replicate 64 false) none inside as_long,
        now_next ∙ ap (λ (a : Awaited). set now i (rest_of settled a)) here ∙ ap (λ (l : List Awaited). set l i (rest_of settled (get_or old i none))) now_is
            ∙ ap (set (made (still_awaited settled) i old old) i) (sym left) ∙ made_next (still_awaited settled) i old old none inside refl,
      )

  pub waits_here : settled < (get_or now i none).least → now' ≡ now → told' ≡ told
      → (told' ≡ made (is_covered settled) (i + 1) old (replicate 64 false)) × (now' ≡ made (still_awaited settled) (i + 1) old old)
  waits_here more now_next told_next =
      let above_here : settled < (get_or old i none).least = subst (λ (a : Awaited). settled < a.least) here more in
      let is : is_covered settled (get_or old i none) ≡ false = elim (leb_tells (get_or old i none).least settled) [
        | inl least ↦ absurd (omega (arith, above_here, least.1))
        | inr above ↦ above.0
      ] in
      let left : still_awaited settled (get_or old i none) ≡ get_or old i none =
      ap (λ (b : Bool). if b then rest_of settled (get_or old i none) else get_or old i none) is in (
        told_next ∙ told_is ∙ made_keep (is_covered settled) i old (replicate 64 false) none false inside as_long (is ∙ sym (get_or-replicate 64 i false false within)),
        now_next ∙ now_is ∙ made_keep (still_awaited settled) i old old none none inside refl left,
      )

-- all places were looked at
pub all_looked_at : (settled i : ℕ) (old now : List Awaited) (told : List Bool) → length old ≡ 64 → 64 ≤ i → told ≡ made (is_covered settled) i old (replicate 64 false)
    → now ≡ made (still_awaited settled) i old old → AreWoken settled old now told
all_looked_at settled i old now told long all told_is now_is = record {
  covered = told_is ∙ whole (is_covered settled) (replicate 64 false) (omega (arith, all, length-replicate 64 false));
  awaited = now_is ∙ whole (still_awaited settled) old (omega (arith, all, long));
}
  where
    whole : {B : Type 0} (f : Awaited → B) (others : List B) → length others ≤ i → made f i old others ≡ map f old
    whole {B} f others within =
        ap (λ (l : List Awaited). map f l ++ drop i others) (take_all i old (omega (arith, all, long)))
        ∙ ap (λ (l : List B). map f old ++ l) (drop_all i others within) ∙ append-nil (map f old)

get_map : {A B : Type 0} (f : A → B) (i : ℕ) (xs : List A) (d : A) (e : B) → i < length xs → get_or (map f xs) i e ≡ f (get_or xs i d)
get_map f i [] d e within = absurd (omega arith)
get_map f zero (first ∷ others) d e within = refl
get_map f (suc i) (first ∷ others) d e within = get_map f i others d e (omega arith)

-- whoever is noted at a place
module _ (settled : ℕ) (awaited : Awaited) (length : ℕ) (noted : IsNoted awaited length) where
  told_of_it : length ≤ settled → is_covered settled awaited ≡ true
  told_of_it within = le-leb awaited.least settled (omega (arith, noted.0, within))

  by_cases : (covered whole : Bool) → settled < length → whole ≡ false
      → IsNoted (if covered then (if whole then nobody else record { least = settled + 1; most = awaited.most }) else awaited) length
  by_cases true true above is = absurd (cc (is))
  by_cases true false above is = (omega (arith, above), noted.1)
  by_cases false whole above is = noted

  still_noted : settled < length → IsNoted (still_awaited settled awaited) length
  still_noted above =
      let whole : nat_le awaited.most settled ≡ false = elim (leb_tells awaited.most settled) [
        | inl least ↦ absurd (omega (arith, above, noted.1, least.1))
        | inr more ↦ more.0
      ] in
      by_cases (is_covered settled awaited) (nat_le awaited.most settled) above whole

-- is told where that is settled, and is noted there still where it isn't
pub nobody_is_forgotten : (settled : ℕ) (old new : List Awaited) (woken : List Bool) → length old ≡ 64 → AreWoken settled old new woken
    → NobodyIsForgotten settled old new woken
nobody_is_forgotten settled old new woken long are place awaited within noted = (
  λ here. ap (λ (l : List Bool). get_or l place false) are.covered ∙ get_map (is_covered settled) place old nobody false inside
      ∙ told_of_it settled (get_or old place nobody) awaited noted here,
  λ above. subst (λ (a : Awaited). IsNoted a awaited)
      (sym (ap (λ (l : List Awaited). get_or l place nobody) are.awaited ∙ get_map (still_awaited settled) place old nobody nobody inside))
      (still_noted settled (get_or old place nobody) awaited noted above),
)
  where
    inside : place < length old
    inside = omega (arith, within, long)
