-- Numbers that wait, and the marks of those that do.
use Rattle.std.proofs.Common.{◌≡◌, ◌≢◌, ◌⊎◌, inl, inr, ℕ, zero, suc, ◌+◌, ◌≤◌, ◌<◌, Bool, true, false, cond, List, [], ◌∷◌, ◌++◌, length, get_or, refl, sym, ◌∙◌, ap, subst, arith}
use Rattle.std.specs.Prelude.{All, Contains, slice_set}
use Rattle.std.proofs.lemmas.Bool.{false≢true, cases_eq}
use Rattle.std.proofs.lemmas.List.{get_or-set_same, get_or-set_other, length-set, length_push}
use Rattle.std.proofs.lemmas.List.Elements.{All-append, Contains-push, Contains-append_left}
use Rattle.std.proofs.lemmas.List.Sums.{sum_by-set, count_by-le-length}
use Rattle.turns.specs.Queues.{AreMarked, count_set}

-- one that isn't the first is among the others
behind_first : (first : ℕ) (others : List ℕ) (number : ℕ) → number ≢ first → Contains (first ∷ others) number → Contains others number
behind_first first others number apart (zero, inside, is) = absurd (apart (sym is))
behind_first first others number apart (suc k, inside, is) = (k, omega (arith, inside), is)

-- a mark that is written
count_set-set : (marks : List Bool) (number : ℕ) (mark was : Bool) → number < length marks → get_or marks number false ≡ was
    → count_set (slice_set marks number mark) + cond was 1 0 ≡ count_set marks + cond mark 1 0
count_set-set marks number mark was inside is =
    ap (λ b. count_set (slice_set marks number mark) + cond b 1 0) (sym is) ∙ sum_by-set (λ b. cond b 1 0) marks number mark false inside

all_push : (most : ℕ) (numbers : List ℕ) (number : ℕ) → All (λ n. n < most) numbers → number < most → All (λ n. n < most) (numbers ++ number ∷ [])
all_push most numbers number all inside = All-append (λ n. n < most) numbers (number ∷ []) all one
  where
    one : All (λ n. n < most) (number ∷ [])
    one zero d here = inside
    one (suc k) d here = absurd (omega (arith, here))

module _ (places : ℕ) (marks : List Bool) (numbers : List ℕ) (number : ℕ) (inside : number < length marks) where
  -- there is a place for one that isn't marked
  pub place_free : get_or marks number false ≡ false → AreMarked places marks numbers → length numbers < places
  place_free unset are =
      let more = count_set-set marks number true false inside unset in
      omega (arith, more, count_by-le-length (λ mark. mark) (slice_set marks number true), length-set marks number true, are.enough, are.few)

  -- one more is marked and waits
  pub marked_more : (most : ℕ) (new : List ℕ) → get_or marks number false ≡ false → places ≤ most → new ≡ numbers ++ number ∷ []
      → AreMarked places marks numbers → AreMarked most (slice_set marks number true) new
  marked_more most new unset enough is are = record {
    enough = omega (arith, length-set marks number true, are.enough, enough);
    inside = subst (λ (l : List ℕ). All (λ n. n < length (slice_set marks number true)) l) (sym is)
        (subst (λ m. All (λ n. n < m) (numbers ++ number ∷ [])) (sym (length-set marks number true)) (all_push (length marks) numbers number are.inside inside));
    wait = λ other set. subst (λ (l : List ℕ). Contains l other) (sym is) (waits other set);
    few = omega (arith, ap (λ (l : List ℕ). length l) is, length_push numbers number, count_set-set marks number true false inside unset, are.few);
  }
    where
      waits : (other : ℕ) → get_or (slice_set marks number true) other false ≡ true → Contains (numbers ++ number ∷ []) other
      waits other set = elim (cases_eq other number) [
        | inl same ↦ subst (Contains (numbers ++ number ∷ [])) (sym same) (Contains-push numbers number)
        | inr apart ↦ Contains-append_left numbers (number ∷ []) other (are.wait other (sym (get_or-set_other marks number other true false apart) ∙ set))
      ]

  -- the first is taken, and with it its mark
  pub marked_fewer : (old : List ℕ) (most : ℕ) → most ≡ places → old ≡ number ∷ numbers → AreMarked places marks old → AreMarked most (slice_set marks number false) numbers
  marked_fewer old most same_places is are = record {
    enough = omega (arith, length-set marks number false, are.enough, same_places);
    inside = subst (λ m. All (λ n. n < m) numbers) (sym (length-set marks number false)) (λ k d here. all (suc k) d (omega (arith, here)));
    wait = waits;
    few = few (get_or marks number false) refl;
  }
    where
      all : All (λ n. n < length marks) (number ∷ numbers)
      all = subst (λ (l : List ℕ). All (λ n. n < length marks) l) is are.inside

      waits : (other : ℕ) → get_or (slice_set marks number false) other false ≡ true → Contains numbers other
      waits other set = elim (cases_eq other number) [
        | inl same ↦ absurd (false≢true (sym (ap (λ n. get_or (slice_set marks number false) n false) same ∙ get_or-set_same marks number false false inside) ∙ set))
        | inr apart ↦ behind_first number numbers other apart
            (subst (λ (l : List ℕ). Contains l other) is (are.wait other (sym (get_or-set_other marks number other false false apart) ∙ set)))
      ]

      few : (was : Bool) → get_or marks number false ≡ was → length numbers ≤ count_set (slice_set marks number false)
      few true was = omega (arith, count_set-set marks number false true inside was, are.few, ap (λ (l : List ℕ). length l) is)
      few false was = omega (arith, count_set-set marks number false false inside was, are.few, ap (λ (l : List ℕ). length l) is)

-- what waits waits still, where a number was added behind it
pub waits_still : (old new : List ℕ) (added : ℕ) → (new ≡ old) ⊎ (new ≡ old ++ added ∷ []) → (number : ℕ) → Contains old number → Contains new number
waits_still old new added (inl same) number waits = subst (λ (l : List ℕ). Contains l number) (sym same) waits
waits_still old new added (inr more) number waits = subst (λ (l : List ℕ). Contains l number) (sym more) (Contains-append_left old (added ∷ []) number waits)

-- all below one more wait
pub waits_below : (old new : List ℕ) (added most : ℕ) → (new ≡ old) ⊎ (new ≡ old ++ added ∷ []) → (added < most → Contains new added)
    → ((number : ℕ) → number < added → number < most → Contains old number) → (number : ℕ) → number < added + 1 → number < most → Contains new number
waits_below old new added most behind last all number within below = elim (cases_eq number added) [
  | inl same ↦ subst (Contains new) (sym same) (last (omega (arith, same, below)))
  | inr apart ↦ waits_still old new added behind number (all number (omega (arith, within, apart)) below)
]

-- no mark is set
abbrev pub AreUnset : List Bool → Type 0
AreUnset marks = (number : ℕ) → get_or marks number false ≡ false

-- none waits, and none is marked
pub marked_none : (places : ℕ) (marks : List Bool) (numbers : List ℕ) → length marks ≤ places → AreUnset marks → numbers ≡ [] → AreMarked places marks numbers
marked_none places marks numbers enough unset none = record {
  enough = enough;
  inside = λ k d here. absurd (omega (arith, here, ap (λ (l : List ℕ). length l) none));
  wait = λ number set. absurd (false≢true (sym (unset number) ∙ set));
  few = omega (arith, ap (λ (l : List ℕ). length l) none);
}
