-- An index of names, as names come and go at the end.
use Rattle.std.proofs.Common.{◌≡◌, ℕ, zero, suc, ◌+◌, ◌<◌, ◌≤◌, Bool, true, false, ◌&&◌, cond, List, [], ◌∷◌, ◌++◌, length, map, take, get_or, Option, Some, None, refl, sym, ap, ap₂, ◌∙◌, arith, true≢false}
use Rattle.std.specs.Prelude.{bytes_eq, is_none, is_some, not}
use Rattle.std.proofs.lemmas.Option.{none-some, same_Some}
use Rattle.std.proofs.lemmas.Slice.Eq.{bytes_eq-Decides}
use Rattle.revision.specs.steps.Index.{number_of, NoneTwice, IsIndex}
use Rattle.revision.specs.steps.DocumentsView.{names_of}
use Rattle.revision.specs.Pending.{PendingDocument, record_of, with_prepared}
use Rattle.revision.specs.State.{find}

pub same_name : (a b : List ℕ) → bytes_eq a b ≡ true → a ≡ b
same_name a b = (bytes_eq-Decides a b).0

pub itself : (a : List ℕ) → bytes_eq a a ≡ true
itself a = (bytes_eq-Decides a a).1 refl

turned : (a b : List ℕ) → bytes_eq a b ≡ false → bytes_eq b a ≡ false
turned a b apart = by_case (bytes_eq b a) refl where
  by_case : (t : Bool) → bytes_eq b a ≡ t → bytes_eq b a ≡ false
  by_case false e = e
  by_case true e = absurd (true≢false (sym ((bytes_eq-Decides a b).1 (sym (same_name b a e))) ∙ apart))

-- a name that isn't there isn't the first, nor among the others
pub none_parts : (q n : List ℕ) (k : ℕ) (ns : List (List ℕ)) → number_of q k (n ∷ ns) ≡ None → (bytes_eq n q ≡ false) × (number_of q (k + 1) ns ≡ None)
none_parts q n k ns none = by_test (bytes_eq n q) refl none where
  by_test : (t : Bool) → bytes_eq n q ≡ t → cond t (Some k) (number_of q (k + 1) ns) ≡ None → (bytes_eq n q ≡ false) × (number_of q (k + 1) ns ≡ None)
  by_test true e h = absurd (none-some k (sym h))
  by_test false e h = (e, h)

none_at-front : (q n : List ℕ) (k : ℕ) (ns : List (List ℕ)) → bytes_eq n q ≡ false → number_of q (k + 1) ns ≡ None → number_of q k (n ∷ ns) ≡ None
none_at-front q n k ns apart none = ap (λ t. cond t (Some k) (number_of q (k + 1) ns)) apart ∙ none

-- from whichever number it is counted
pub none_from : (q : List ℕ) (k j : ℕ) (ns : List (List ℕ)) → number_of q k ns ≡ None → number_of q j ns ≡ None
none_from q k j [] none = refl
none_from q k j (n ∷ ns) none =
    let parts = none_parts q n k ns none in
    none_at-front q n j ns parts.0 (none_from q (k + 1) (j + 1) ns parts.1)

-- one name more, at the end: another isn't moved, and it is found there
pub other-more : (q m : List ℕ) (k : ℕ) (ns : List (List ℕ)) → bytes_eq m q ≡ false → number_of q k (ns ++ m ∷ []) ≡ number_of q k ns
other-more q m k [] apart = ap (λ t. cond t (Some k) None) apart
other-more q m k (n ∷ ns) apart = ap (cond (bytes_eq n q) (Some k)) (other-more q m (k + 1) ns apart)

pub found-last : (m : List ℕ) (k : ℕ) (ns : List (List ℕ)) → number_of m k ns ≡ None → number_of m k (ns ++ m ∷ []) ≡ Some (k + length ns)
found-last m k [] none = ap (λ t. cond t (Some k) None) (itself m) ∙ ap (λ (i : ℕ). Some i) (omega arith)
found-last m k (n ∷ ns) none =
    let parts = none_parts m n k ns none in
    ap (λ t. cond t (Some k) (number_of m (k + 1) (ns ++ m ∷ []))) parts.0 ∙ found-last m (k + 1) ns parts.1 ∙ ap (λ (i : ℕ). Some i) (omega arith)

pub index-more : (index more : List ℕ → Option ℕ) (ns : List (List ℕ)) (m : List ℕ) → IsIndex index ns → number_of m 0 ns ≡ None
    → ((q : List ℕ) → more q ≡ cond (bytes_eq m q) (Some (length ns)) (index q)) → IsIndex more (ns ++ m ∷ [])
index-more index more ns m is none given q = by_test (bytes_eq m q) refl where
  by_test : (t : Bool) → bytes_eq m q ≡ t → more q ≡ number_of q 0 (ns ++ m ∷ [])
  by_test true e =
      given q ∙ ap (λ t. cond t (Some (length ns)) (index q)) e ∙ ap (λ (i : ℕ). Some i) (omega arith) ∙ sym (found-last m 0 ns none)
      ∙ ap (λ n. number_of n 0 (ns ++ m ∷ [])) (same_name m q e)
  by_test false e = given q ∙ ap (λ t. cond t (Some (length ns)) (index q)) e ∙ is q ∙ sym (other-more q m 0 ns e)

pub none_twice-more : (ns : List (List ℕ)) (m : List ℕ) → NoneTwice ns → number_of m 0 ns ≡ None → NoneTwice (ns ++ m ∷ [])
none_twice-more [] m once none = (refl, tt)
none_twice-more (n ∷ ns) m once none =
    let parts = none_parts m n 0 ns none in
    (other-more n m 0 ns (turned n m parts.0) ∙ once.0, none_twice-more ns m once.1 (none_from m 1 0 ns parts.1))

-- one name less
apart_from_last : (ns : List (List ℕ)) (m n : List ℕ) → number_of m 0 ns ≡ None → number_of n 0 (ns ++ m ∷ []) ≡ None
    → (bytes_eq m n ≡ false) × (number_of n 0 ns ≡ None)
apart_from_last ns m n new none = by_test (bytes_eq m n) refl where
  by_test : (t : Bool) → bytes_eq m n ≡ t → (bytes_eq m n ≡ false) × (number_of n 0 ns ≡ None)
  by_test false e = (e, sym (other-more n m 0 ns e) ∙ none)
  by_test true e =
      absurd (none-some _ (sym none ∙ ap (λ k. number_of k 0 (ns ++ m ∷ [])) (sym (same_name m n e)) ∙ found-last m 0 ns new))

pub last_is_new : (ns : List (List ℕ)) (m : List ℕ) → NoneTwice (ns ++ m ∷ []) → NoneTwice ns × (number_of m 0 ns ≡ None)
last_is_new [] m once = (tt, refl)
last_is_new (n ∷ ns) m once =
    let rest = last_is_new ns m once.1 in
    let apart = apart_from_last ns m n rest.1 once.0 in (
      (apart.1, rest.0),
      none_at-front m n 0 ns (turned m n apart.0) (none_from m 0 1 ns rest.1),
    )

pub index-less : (index less : List ℕ → Option ℕ) (ns : List (List ℕ)) (m : List ℕ) → IsIndex index (ns ++ m ∷ []) → NoneTwice (ns ++ m ∷ [])
    → ((q : List ℕ) → less q ≡ cond (bytes_eq m q) None (index q)) → IsIndex less ns
index-less index less ns m is once given q = by_test (bytes_eq m q) refl where
  by_test : (t : Bool) → bytes_eq m q ≡ t → less q ≡ number_of q 0 ns
  by_test true e =
      given q ∙ ap (λ t. cond t None (index q)) e ∙ sym (last_is_new ns m once).1 ∙ ap (λ n. number_of n 0 ns) (same_name m q e)
  by_test false e = given q ∙ ap (λ t. cond t None (index q)) e ∙ is q ∙ other-more q m 0 ns e

-- the beginning of a list with one item more
pub take_init : {X : Type 0} (n : ℕ) (xs : List X) (x : X) → n ≤ length xs → take n (xs ++ x ∷ []) ≡ take n xs
take_init zero xs x within = refl
take_init (suc n) [] x within = absurd (omega (arith, within))
take_init (suc n) (y ∷ ys) x within = ap (λ zs. y ∷ zs) (take_init n ys x (omega (arith, within)))

-- a name without a number is no document's
chosen_none : {A B : Type 0} (t : Bool) (a : A) (b : B) (o : Option A) (p : Option B) → is_none o ≡ is_none p → is_none (cond t (Some a) o) ≡ is_none (cond t (Some b) p)
chosen_none true a b o p same = refl
chosen_none false a b o p same = same

pub number-found : (keep : ℕ) (q : List ℕ) (k : ℕ) (ds : List PendingDocument)
    → is_none (number_of q k (names_of ds)) ≡ is_none (find q k (map (with_prepared keep) ds))
number-found keep q k [] = refl
number-found keep q k (d ∷ ds) =
    chosen_none (bytes_eq d.name q) k (k, with_prepared keep d) (number_of q (k + 1) (names_of ds)) (find q (k + 1) (map (with_prepared keep) ds))
    (number-found keep q (k + 1) ds)

pub none_from_test : {A : Type 0} (o : Option A) → is_none o ≡ true → o ≡ None
none_from_test None is = refl
none_from_test (Some x) is = absurd (true≢false (sym is))

-- what there is where there is room
pub room_parts : (a b c : Bool) → (a && b && c) ≡ true → (a ≡ true) × (b ≡ true) × (c ≡ true)
room_parts true true true is = (refl, refl, refl)
room_parts true true false is = absurd (true≢false (sym is))
room_parts true false c is = absurd (true≢false (sym is))
room_parts false b c is = absurd (true≢false (sym is))

pub names_length : (ds : List PendingDocument) → length (names_of ds) ≡ length ds
names_length [] = refl
names_length (d ∷ ds) = ap suc (names_length ds)

pub none_told : {A : Type 0} (o : Option A) (b : Bool) → is_some o ≡ not b → b ≡ is_none o
none_told None true is = refl
none_told None false is = absurd (true≢false (sym is))
none_told (Some x) true is = absurd (true≢false is)
none_told (Some x) false is = refl

number-least : (q : List ℕ) (k i : ℕ) (ns : List (List ℕ)) → number_of q k ns ≡ Some i → k ≤ i
number-least q k i [] is = absurd (none-some i is)
number-least q k i (n ∷ ns) is = by_test (bytes_eq n q) (λ further. number-least q (k + 1) i ns further) is where
  by_test : (t : Bool) → (number_of q (k + 1) ns ≡ Some i → k + 1 ≤ i) → cond t (Some k) (number_of q (k + 1) ns) ≡ Some i → k ≤ i
  by_test true more e = let same = same_Some k i e in omega (arith, same)
  by_test false more e = let above = more e in omega (arith, above)

-- a document that is found stands at its number
pub found-within : (q : List ℕ) (k i j count : ℕ) (ds : List PendingDocument) (d : PendingDocument) → number_of q k (names_of ds) ≡ Some i → i ≡ k + j → j < count
    → d ≡ get_or ds j d → find q k (map record_of (take count ds)) ≡ Some (i, record_of d)
found-within q k i j count [] d is at inside there = absurd (none-some i is)
found-within q k i j zero (e ∷ ds) d is at inside there = absurd (omega (arith, inside))
found-within q k i zero (suc count) (e ∷ ds) d is at inside there = by_test (bytes_eq e.name q) is where
  by_test : (t : Bool) → cond t (Some k) (number_of q (k + 1) (names_of ds)) ≡ Some i
      → cond t (Some (k, record_of e)) (find q (k + 1) (map record_of (take count ds))) ≡ Some (i, record_of d)
  by_test true h = ap₂ (λ (n : ℕ) (x : PendingDocument). Some (n, record_of x)) (same_Some k i h) (sym there)
  by_test false h = let above = number-least q (k + 1) i (names_of ds) h in absurd (omega (arith, above, at))
found-within q k i (suc j) (suc count) (e ∷ ds) d is at inside there =
    by_test (bytes_eq e.name q) (λ h. found-within q (k + 1) i j count ds d h (omega (arith, at)) (omega (arith, inside)) there) is where
      by_test : (t : Bool) → (number_of q (k + 1) (names_of ds) ≡ Some i → find q (k + 1) (map record_of (take count ds)) ≡ Some (i, record_of d))
          → cond t (Some k) (number_of q (k + 1) (names_of ds)) ≡ Some i
          → cond t (Some (k, record_of e)) (find q (k + 1) (map record_of (take count ds))) ≡ Some (i, record_of d)
      by_test true more h = let same = same_Some k i h in absurd (omega (arith, same, at))
      by_test false more h = more h

-- one that is prepared isn't among those that are held
pub found-past : (q : List ℕ) (k i count : ℕ) (ds : List PendingDocument) → number_of q k (names_of ds) ≡ Some i → k + count ≤ i
    → find q k (map record_of (take count ds)) ≡ None
found-past q k i zero ds is past = refl
found-past q k i (suc count) [] is past = refl
found-past q k i (suc count) (e ∷ ds) is past = by_test (bytes_eq e.name q) (λ h. found-past q (k + 1) i count ds h (omega (arith, past))) is where
  by_test : (t : Bool) → (number_of q (k + 1) (names_of ds) ≡ Some i → find q (k + 1) (map record_of (take count ds)) ≡ None)
      → cond t (Some k) (number_of q (k + 1) (names_of ds)) ≡ Some i
      → cond t (Some (k, record_of e)) (find q (k + 1) (map record_of (take count ds))) ≡ None
  by_test true more h = let same = same_Some k i h in absurd (omega (arith, same, past))
  by_test false more h = more h

pub found-none : (q : List ℕ) (k count : ℕ) (ds : List PendingDocument) → number_of q k (names_of ds) ≡ None → find q k (map record_of (take count ds)) ≡ None
found-none q k zero ds is = refl
found-none q k (suc count) [] is = refl
found-none q k (suc count) (e ∷ ds) is =
    let parts = none_parts q e.name k (names_of ds) is in
    ap (λ t. cond t (Some (k, record_of e)) (find q (k + 1) (map record_of (take count ds)))) parts.0 ∙ found-none q (k + 1) count ds parts.1
