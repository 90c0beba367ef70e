-- The numbers of slots, and what a change of one of them keeps.
use Rattle.std.proofs.Common.{◌≡◌, ◌≢◌, inl, inr, ℕ, zero, suc, ◌≤◌, ◌<◌, Option, Some, None, List, [], ◌∷◌, length, set, refl, sym, ◌∙◌, ap, arith}
use Rattle.std.proofs.lemmas.Bool.{cases_eq, cases_lt}
use Rattle.std.proofs.lemmas.List.{get_or-set_same, get_or-set_other, set-get_or, get_or_past}
use Rattle.segments.specs.Numbers.{number_at, newest_number, open_count, NumbersDiffer, IsNext, IsNewest, IsOldest}

-- no number is above the highest
pub below_newest : (numbers : List (Option ℕ)) (slot n : ℕ) → number_at numbers slot ≡ Some n → n ≤ newest_number numbers
below_newest [] slot n is = absurd cc
below_newest (None ∷ numbers) zero n is = absurd cc
below_newest (None ∷ numbers) (suc slot) n is = below_newest numbers slot n is
below_newest (Some m ∷ numbers) zero n is =
    let same : m ≡ n = cc in
    omega (arith, same)
below_newest (Some m ∷ numbers) (suc slot) n is = omega (arith, below_newest numbers slot n is)

module _ (numbers : List (Option ℕ)) (k : ℕ) (x : Option ℕ) (inside : k < length numbers) where
  -- the number of another slot
  pub other_number : (slot : ℕ) → slot ≢ k → number_at (set numbers k x) slot ≡ number_at numbers slot
  other_number slot other = get_or-set_other numbers k slot x None other

  pub this_number : number_at (set numbers k x) k ≡ x
  this_number = get_or-set_same numbers k x None inside

  -- numbers that differ go on so, where the new one is none of the others
  pub differ_set : NumbersDiffer numbers → ((slot n : ℕ) → slot ≢ k → number_at numbers slot ≡ Some n → x ≢ Some n) → NumbersDiffer (set numbers k x)
  differ_set differ fresh slot other n one two = elim (cases_eq slot k) [
    | inl here ↦ elim (cases_eq other k) [
      | inl there ↦ here ∙ sym there
      | inr apart ↦ absurd (fresh other n apart (sym (other_number other apart) ∙ two) (sym this_number ∙ ap (λ s. number_at (set numbers k x) s) (sym here) ∙ one))
    ]
    | inr away ↦ elim (cases_eq other k) [
      | inl there ↦ absurd (fresh slot n away (sym (other_number slot away) ∙ one) (sym this_number ∙ ap (λ s. number_at (set numbers k x) s) (sym there) ∙ two))
      | inr apart ↦ differ slot other n (sym (other_number slot away) ∙ one) (sym (other_number other apart) ∙ two)
    ]
  ]

-- the next number is new, and the newest one from then on
module _ (numbers : List (Option ℕ)) (slot number : ℕ) (next : IsNext numbers slot number) where
  pub next_differs : NumbersDiffer numbers → NumbersDiffer (set numbers slot (Some number))
  next_differs differ = differ_set numbers slot (Some number) next.free.there differ (λ other n apart has is.
      let same : number ≡ n = cc in
      absurd (omega (arith, same, next.above, below_newest numbers other n has)))

  pub next_newest : IsNewest (set numbers slot (Some number)) slot number
  next_newest = record {
    has = this_number numbers slot (Some number) next.free.there;
    highest = λ other n has. elim (cases_eq other slot) [
      | inl here ↦
          let is : Some number ≡ Some n = sym (this_number numbers slot (Some number) next.free.there) ∙ ap (λ s. number_at (set numbers slot (Some number)) s) (sym here) ∙ has in
          let same : number ≡ n = cc in
          omega (arith, same)
      | inr apart ↦ omega (arith, next.above, below_newest numbers other n (sym (other_number numbers slot (Some number) next.free.there other apart) ∙ has))
    ];
  }

-- where no slot is open, none is counted
pub none_open : (numbers : List (Option ℕ)) → ((slot : ℕ) → number_at numbers slot ≡ None) → open_count numbers ≡ 0
none_open [] none = refl
none_open (None ∷ numbers) none = none_open numbers (λ slot. none (suc slot))
none_open (Some m ∷ numbers) none = absurd (let is : Some m ≡ None = none 0 in cc)

-- of one that is counted the slot is open
pub one_open : (numbers : List (Option ℕ)) → 1 ≤ open_count numbers → (slot : ℕ) × (n : ℕ) × (number_at numbers slot ≡ Some n)
one_open [] some = absurd (omega (arith, some))
one_open (None ∷ numbers) some = let r = one_open numbers some in (suc r.0, r.1, r.2)
one_open (Some m ∷ numbers) some = (0, m, refl)

-- of two, one is another than this
pub other_open : (numbers : List (Option ℕ)) (k : ℕ) → 2 ≤ open_count numbers → (slot : ℕ) × (slot ≢ k) × (n : ℕ) × (number_at numbers slot ≡ Some n)
other_open [] k two = absurd (omega (arith, two))
other_open (None ∷ numbers) zero two = let r = one_open numbers (omega (arith, two)) in (suc r.0, λ is. absurd (omega (arith, is)), r.1, r.2)
other_open (None ∷ numbers) (suc k) two = let r = other_open numbers k two in (suc r.0, λ is. r.1 (omega (arith, is)), r.2, r.3)
other_open (Some m ∷ numbers) zero two = let r = one_open numbers (omega (arith, two)) in (suc r.0, λ is. absurd (omega (arith, is)), r.1, r.2)
other_open (Some m ∷ numbers) (suc k) two = (0, λ is. absurd (omega (arith, is)), m, refl)

-- where two are open, the newest isn't the oldest
pub newest_is_not_oldest : (numbers : List (Option ℕ)) (newest high oldest low : ℕ) → NumbersDiffer numbers → 2 ≤ open_count numbers → IsNewest numbers newest high → IsOldest numbers oldest low → newest ≢ oldest
newest_is_not_oldest numbers newest high oldest low differ two is_newest is_oldest same =
    let other = other_open numbers oldest two in
    let both : Some high ≡ Some low = sym is_newest.has ∙ ap (λ s. number_at numbers s) same ∙ is_oldest.has in
    let one : high ≡ low = cc in
    let above = is_newest.highest other.0 other.2 other.3 in
    let below = is_oldest.lowest other.0 other.2 other.3 in
    let number : other.2 ≡ low = omega (arith, above, below, one) in
    other.1 (differ other.0 oldest low (other.3 ∙ ap (λ (n : ℕ). Some n) number) is_oldest.has)

-- it stays the newest without the oldest
pub newest_stays : (numbers : List (Option ℕ)) (newest high oldest : ℕ) → oldest < length numbers → newest ≢ oldest → IsNewest numbers newest high → IsNewest (set numbers oldest None) newest high
newest_stays numbers newest high oldest inside apart is_newest = record {
  has = other_number numbers oldest None inside newest apart ∙ is_newest.has;
  highest = λ other n has. elim (cases_eq other oldest) [
    | inl here ↦ absurd (let is : None ≡ Some n = sym (this_number numbers oldest None inside) ∙ ap (λ s. number_at (set numbers oldest None) s) (sym here) ∙ has in cc)
    | inr away ↦ is_newest.highest other n (sym (other_number numbers oldest None inside other away) ∙ has)
  ];
}

-- the same number again changes nothing
pub same_number : (numbers : List (Option ℕ)) (k : ℕ) (x : Option ℕ) → number_at numbers k ≡ x → set numbers k x ≡ numbers
same_number numbers k x is = ap (λ (o : Option ℕ). set numbers k o) (sym is) ∙ set-get_or numbers k None

-- a slot that has a number is there
pub number_inside : (numbers : List (Option ℕ)) (slot n : ℕ) → number_at numbers slot ≡ Some n → slot < length numbers
number_inside numbers slot n has = elim (cases_lt slot (length numbers)) [
  | inl inside ↦ inside
  | inr past ↦ absurd (let is : None ≡ Some n = sym (get_or_past numbers slot None past) ∙ has in cc)
]
