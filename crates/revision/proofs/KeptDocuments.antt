-- The documents that a past keeps at some of its revisions, and the sources beside them.
use Rattle.std.proofs.Common.{◌≡◌, ℕ, zero, suc, ◌+◌, ◌-◌, ◌≤◌, ◌<◌, List, [], ◌∷◌, ◌++◌, length, take, drop, get_or, Option, Some, None, Bool, true, false, refl, sym, ap, ap₂, subst, ◌∙◌, arith}
use Rattle.std.specs.Prelude.{if◌then◌else◌, IfSome, remove}
use Rattle.std.proofs.lemmas.List.{take_all, take-take, drop-take, take-append-le, length-take}
use Rattle.delta.specs.Element.{Element}
use Rattle.delta.specs.Operation.{Operation}
use Rattle.delta.specs.Gaps.{counted, apply}
use Rattle.compose.specs.Many.{applied}
use Rattle.revision.specs.declared.past.kept_document.Kept.{Kept}
use Rattle.revision.specs.Past.{IsKept, AreKept, IsNoted, AreNoted, sources_after, Change}
use Rattle.revision.specs.Sources.{Sources, with_taken}

-- the first deltas, and then those after them
pub applied-parts : (n m k : ℕ) (units : List Element) (deltas : List (List Operation)) → k ≡ n + m → applied (applied units (take n deltas)) (take m (drop n deltas)) ≡ applied units (take k deltas)
applied-parts zero m k units deltas e = ap (λ i. applied units (take i deltas)) (let same : m ≡ k = omega (arith, e) in same)
applied-parts (suc n) m k units [] e = ap (applied units) (take_all m [] (omega arith) ∙ sym (take_all k [] (omega arith)))
applied-parts (suc n) m zero units (d ∷ deltas) e = absurd (omega (arith, e))
applied-parts (suc n) m (suc k) units (d ∷ deltas) e = applied-parts n m k (apply units (counted d)) deltas (omega (arith, e))

-- the sources after the first changes, and then after those after them
pub sources-parts : (n start end : ℕ) (sources : Sources) (changes : List Change) → end ≡ start + n → n ≤ length changes
    → sources_after end (sources_after start sources (take n changes)) (drop n changes) ≡ sources_after start sources changes
sources-parts zero start end sources changes e within = ap (λ i. sources_after i sources changes) (let same : end ≡ start = omega (arith, e) in same)
sources-parts (suc n) start end sources [] e within = absurd (omega (arith, within))
sources-parts (suc n) start end sources (c ∷ changes) e within =
    sources-parts n (start + 1) end (with_taken c.source c.number (start + 1) sources) changes (omega (arith, e)) (omega (arith, within))

-- one of them, those after some, and one more
pub kept-at : (start count : ℕ) (units : List Element) (deltas : List (List Operation)) (kept : List Kept) (i : ℕ) (k : Kept) → AreKept start count units deltas kept
    → i < length kept → k ≡ get_or kept i k → IsKept start count units deltas k
kept-at start count units deltas [] i k are within is = absurd (omega (arith, within))
kept-at start count units deltas (first ∷ kept) zero k are within is = subst (IsKept start count units deltas) (sym is) are.0
kept-at start count units deltas (first ∷ kept) (suc i) k are within is = kept-at start count units deltas kept i k are.1 (omega (arith, within)) is

kept-drop : (start count : ℕ) (units : List Element) (deltas : List (List Operation)) (kept : List Kept) (n : ℕ) → AreKept start count units deltas kept
    → AreKept start count units deltas (drop n kept)
kept-drop start count units deltas kept zero are = are
kept-drop start count units deltas [] (suc n) are = tt
kept-drop start count units deltas (first ∷ kept) (suc n) are = kept-drop start count units deltas kept n are.1

kept-more : (start count : ℕ) (units : List Element) (deltas : List (List Operation)) (kept : List Kept) (k : Kept) → AreKept start count units deltas kept
    → IsKept start count units deltas k → AreKept start count units deltas (kept ++ k ∷ [])
kept-more start count units deltas [] k are is = (is, tt)
kept-more start count units deltas (first ∷ kept) k are is = (are.0, kept-more start count units deltas kept k are.1 is)

-- one more where memory was there for it
pub kept-pushed : (start count : ℕ) (units : List Element) (deltas : List (List Operation)) (kept : List Kept) (k : Kept) (pushed : Bool) → AreKept start count units deltas kept
    → IsKept start count units deltas k → AreKept start count units deltas (if pushed then kept ++ k ∷ [] else kept)
kept-pushed start count units deltas kept k true are is = kept-more start count units deltas kept k are is
kept-pushed start count units deltas kept k false are is = are

-- each of other parts
kept-each : (start count start' count' : ℕ) (units units' : List Element) (deltas deltas' : List (List Operation)) (kept : List Kept)
    → ((k : Kept) → IsKept start count units deltas k → IsKept start' count' units' deltas' k) → AreKept start count units deltas kept → AreKept start' count' units' deltas' kept
kept-each start count start' count' units units' deltas deltas' [] each are = tt
kept-each start count start' count' units units' deltas deltas' (first ∷ kept) each are =
    (each first are.0, kept-each start count start' count' units units' deltas deltas' kept each are.1)

-- after one change more that is prepared, with fewer that are, after all are taken, and once the first are let go of
pub kept-prepared : (start count : ℕ) (units : List Element) (deltas more : List (List Operation)) (kept : List Kept) → count ≤ length deltas → AreKept start count units deltas kept
    → AreKept start count units (deltas ++ more) kept
kept-prepared start count units deltas more kept within =
    kept-each start count start count units units deltas (deltas ++ more) kept
    (λ k is. (is.0, λ above. is.1 above ∙ ap (applied units) (sym (take-append-le (k.revision - start) deltas more (omega (arith, is.0, within))))))

pub kept-cut : (start count left : ℕ) (units : List Element) (deltas : List (List Operation)) (kept : List Kept) → count ≤ left → AreKept start count units deltas kept
    → AreKept start count units (take left deltas) kept
kept-cut start count left units deltas kept within =
    kept-each start count start count units units deltas (take left deltas) kept
    (λ k is. (is.0, λ above. is.1 above ∙ ap (applied units) (sym (take-take (k.revision - start) left deltas (omega (arith, is.0, within))))))

pub kept-accepted : (start count all : ℕ) (units : List Element) (deltas : List (List Operation)) (kept : List Kept) → count ≤ all → AreKept start count units deltas kept
    → AreKept start all units deltas kept
kept-accepted start count all units deltas kept within =
    kept-each start count start all units units deltas deltas kept (λ k is. (omega (arith, is.0, within), is.1))

pub kept-later : (start count gone passed : ℕ) (units : List Element) (deltas : List (List Operation)) (kept : List Kept) → gone ≤ count → AreKept start count units deltas kept
    → AreKept (start + gone) (count - gone) (applied units (take gone deltas)) (drop gone deltas) (drop passed kept)
kept-later start count gone passed units deltas kept within are =
    kept-each start count (start + gone) (count - gone) units (applied units (take gone deltas)) deltas (drop gone deltas) (drop passed kept)
    (λ k is. (
      omega (arith, is.0, within),
      λ above.
          is.1 (omega (arith, above)) ∙ sym (applied-parts gone (k.revision - (start + gone)) (k.revision - start) units deltas (omega (arith, above))),
    ))
    (kept-drop start count units deltas kept passed are)

-- the same of the sources beside them
pub noted-at : (start : ℕ) (sources : Sources) (changes : List Change) (kept : List Kept) (i : ℕ) (k : Kept) → AreNoted start sources changes kept
    → i < length kept → k ≡ get_or kept i k → IsNoted start sources changes k
noted-at start sources changes [] i k are within is = absurd (omega (arith, within))
noted-at start sources changes (first ∷ kept) zero k are within is = subst (IsNoted start sources changes) (sym is) are.0
noted-at start sources changes (first ∷ kept) (suc i) k are within is = noted-at start sources changes kept i k are.1 (omega (arith, within)) is

noted-drop : (start : ℕ) (sources : Sources) (changes : List Change) (kept : List Kept) (n : ℕ) → AreNoted start sources changes kept
    → AreNoted start sources changes (drop n kept)
noted-drop start sources changes kept zero are = are
noted-drop start sources changes [] (suc n) are = tt
noted-drop start sources changes (first ∷ kept) (suc n) are = noted-drop start sources changes kept n are.1

noted-more : (start : ℕ) (sources : Sources) (changes : List Change) (kept : List Kept) (k : Kept) → AreNoted start sources changes kept
    → IsNoted start sources changes k → AreNoted start sources changes (kept ++ k ∷ [])
noted-more start sources changes [] k are is = (is, tt)
noted-more start sources changes (first ∷ kept) k are is = (are.0, noted-more start sources changes kept k are.1 is)

pub noted-pushed : (start : ℕ) (sources : Sources) (changes : List Change) (kept : List Kept) (k : Kept) (pushed : Bool) → AreNoted start sources changes kept
    → IsNoted start sources changes k → AreNoted start sources changes (if pushed then kept ++ k ∷ [] else kept)
noted-pushed start sources changes kept k true are is = noted-more start sources changes kept k are is
noted-pushed start sources changes kept k false are is = are

-- the sources are the same where the changes up to the revision are
noted-same : (start : ℕ) (sources : Sources) (changes changes' : List Change) (k : Kept) → (start ≤ k.revision → take (k.revision - start) changes' ≡ take (k.revision - start) changes)
    → IsNoted start sources changes k → IsNoted start sources changes' k
noted-same start sources changes changes' k same is =
    λ above. subst (λ (l : List Change). IfSome k.sources (λ (s : Sources). s ≡ sources_after start sources l)) (sym (same above)) (is above)

noted-each : (start count : ℕ) (units : List Element) (deltas : List (List Operation)) (sources : Sources) (changes changes' : List Change) (kept : List Kept)
    → ((k : Kept) → k.revision ≤ start + count → start ≤ k.revision → take (k.revision - start) changes' ≡ take (k.revision - start) changes)
    → AreKept start count units deltas kept → AreNoted start sources changes kept → AreNoted start sources changes' kept
noted-each start count units deltas sources changes changes' [] each kept are = tt
noted-each start count units deltas sources changes changes' (first ∷ others) each kept are =
    (noted-same start sources changes changes' first (each first kept.0.0) are.0, noted-each start count units deltas sources changes changes' others each kept.1 are.1)

pub noted-prepared : (start count : ℕ) (units : List Element) (deltas : List (List Operation)) (sources : Sources) (changes more : List Change) (kept : List Kept) → count ≤ length changes
    → AreKept start count units deltas kept → AreNoted start sources changes kept → AreNoted start sources (changes ++ more) kept
noted-prepared start count units deltas sources changes more kept within =
    noted-each start count units deltas sources changes (changes ++ more) kept (λ k below above. take-append-le (k.revision - start) changes more (omega (arith, below, within)))

pub noted-cut : (start count left : ℕ) (units : List Element) (deltas : List (List Operation)) (sources : Sources) (changes : List Change) (kept : List Kept) → count ≤ left
    → AreKept start count units deltas kept → AreNoted start sources changes kept → AreNoted start sources (take left changes) kept
noted-cut start count left units deltas sources changes kept within =
    noted-each start count units deltas sources changes (take left changes) kept (λ k below above. take-take (k.revision - start) left changes (omega (arith, below, within)))

-- the sources at a later start, and then at a revision from there on
pub sources-between : (start gone later revision : ℕ) (sources : Sources) (changes : List Change) → later ≡ start + gone → gone ≤ length changes → later ≤ revision
    → sources_after later (sources_after start sources (take gone changes)) (take (revision - later) (drop gone changes)) ≡ sources_after start sources (take (revision - start) changes)
sources-between start gone later revision sources changes e within above =
    let upto : ℕ = revision - start in
    let more : ℕ = revision - later in
    let sum : gone + more ≡ upto = omega (arith, e, above) in
    let some : List Change = take upto changes in
    let front : take gone changes ≡ take gone some = sym (take-take gone upto changes (omega (arith, sum))) in
    let rest : take more (drop gone changes) ≡ drop gone some = sym (drop-take gone more changes) ∙ ap (λ n. drop gone (take n changes)) sum in
    ap₂ (λ (l m : List Change). sources_after later (sources_after start sources l) m) front rest
    ∙ sources-parts gone start later sources some e (longer changes upto (omega (arith, sum)) within)
  where
    longer : (changes : List Change) (upto : ℕ) → gone ≤ upto → gone ≤ length changes → gone ≤ length (take upto changes)
    longer changes upto some within = omega (arith, length-take upto changes, some, within)

noted-moved : (start gone : ℕ) (sources : Sources) (changes : List Change) (k : Kept) → gone ≤ length changes → IsNoted start sources changes k
    → IsNoted (start + gone) (sources_after start sources (take gone changes)) (drop gone changes) k
noted-moved start gone sources changes k within is = λ above. moved k.sources (is (omega (arith, above))) above
  where
    moved : (there : Option Sources) → IfSome there (λ (s : Sources). s ≡ sources_after start sources (take (k.revision - start) changes)) → start + gone ≤ k.revision
        → IfSome there (λ (s : Sources). s ≡ sources_after (start + gone) (sources_after start sources (take gone changes)) (take (k.revision - (start + gone)) (drop gone changes)))
    moved None there above = there
    moved (Some s) there above = there ∙ sym (sources-between start gone (start + gone) k.revision sources changes refl within above)

pub noted-later : (start gone passed : ℕ) (sources : Sources) (changes : List Change) (kept : List Kept) → gone ≤ length changes → AreNoted start sources changes kept
    → AreNoted (start + gone) (sources_after start sources (take gone changes)) (drop gone changes) (drop passed kept)
noted-later start gone passed sources changes kept within are = each (drop passed kept) (noted-drop start sources changes kept passed are)
  where
    each : (kept : List Kept) → AreNoted start sources changes kept → AreNoted (start + gone) (sources_after start sources (take gone changes)) (drop gone changes) kept
    each [] are = tt
    each (first ∷ others) are = (noted-moved start gone sources changes first within are.0, each others are.1)

-- a copy of sources is of what they are
pub noted-by : (copy : Option Sources) (sources there : Sources) → IfSome copy (λ (s : Sources). s ≡ sources) → sources ≡ there → IfSome copy (λ (s : Sources). s ≡ there)
noted-by None sources there is same = is
noted-by (Some s) sources there is same = is ∙ same

-- sources that are there are what is said of them
pub noted-there : (some : Option Sources) (found there : Sources) → some ≡ Some found → IfSome some (λ (s : Sources). s ≡ there) → found ≡ there
noted-there some found there is noted = subst (λ (o : Option Sources). IfSome o (λ (s : Sources). s ≡ there)) is noted

-- all but one of them
pub kept-removed : (start count : ℕ) (units : List Element) (deltas : List (List Operation)) (kept : List Kept) (i : ℕ) → AreKept start count units deltas kept
    → AreKept start count units deltas (remove kept i)
kept-removed start count units deltas [] zero are = tt
kept-removed start count units deltas [] (suc i) are = tt
kept-removed start count units deltas (first ∷ others) zero are = are.1
kept-removed start count units deltas (first ∷ others) (suc i) are = (are.0, kept-removed start count units deltas others i are.1)

pub noted-removed : (start : ℕ) (sources : Sources) (changes : List Change) (kept : List Kept) (i : ℕ) → AreNoted start sources changes kept
    → AreNoted start sources changes (remove kept i)
noted-removed start sources changes [] zero are = tt
noted-removed start sources changes [] (suc i) are = tt
noted-removed start sources changes (first ∷ others) zero are = are.1
noted-removed start sources changes (first ∷ others) (suc i) are = (are.0, noted-removed start sources changes others i are.1)
