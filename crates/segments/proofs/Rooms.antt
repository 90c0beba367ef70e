-- Whether a body finds room in a ring.
use Rattle.std.proofs.Common.{◌≡◌, ℕ, zero, suc, ◌-◌, ◌^◌, ◌<◌, Bool, true, false, ◌&&◌, ◌||◌, Option, Some, None, List, [], ◌∷◌, length, set, refl, sym, ◌∙◌, ap, subst, arith}
use Rattle.std.specs.Prelude.{nat_lt}
use Rattle.std.proofs.lemmas.Bool.Decides.{nat_tests}
use Rattle.segments.specs.Numbers.{number_at, newest_number, IsFree, IsFull, NumbersDiffer}
use Rattle.segments.specs.Table.{numbers_of}
use Rattle.segments.specs.Room.{has_closed, has_free}
use Rattle.segments.specs.Laws.{OpenedDiffers, FullRing}
use Rattle.segments.specs.Ring.{known_numbers, fits_newest}
use Rattle.segments.proofs.Numbering.{next_differs}
use Rattle.segments.proofs.Tables.{numbers_set}
use Rattle.std.proofs.lemmas.Bool.{false_from_ne_true}

-- a closed gate is told, and is there where it is told
closed_told : (numbers : List (Option ℕ)) (slot : ℕ) → slot < length numbers → number_at numbers slot ≡ None → has_closed numbers ≡ true
closed_told [] slot inside is = absurd (omega (arith, inside))
closed_told (None ∷ numbers) slot inside is = refl
closed_told (Some n ∷ numbers) zero inside is = absurd cc
closed_told (Some n ∷ numbers) (suc slot) inside is = closed_told numbers slot (omega (arith, inside)) is

closed_there : (numbers : List (Option ℕ)) → has_closed numbers ≡ true → (slot : ℕ) × (slot < length numbers) × (number_at numbers slot ≡ None)
closed_there [] told = absurd cc
closed_there (None ∷ numbers) told = (0, omega arith, refl)
closed_there (Some n ∷ numbers) told = let r = closed_there numbers told in (suc r.0, omega (arith, r.1), r.2)

pub free_told : (numbers : List (Option ℕ)) (slot : ℕ) → IsFree numbers slot → has_free numbers ≡ true
free_told numbers slot free =
    let small : nat_lt (newest_number numbers) (2 ^ 64 - 1) ≡ true = grind (arith, nat_tests, free.next) in
    rw (closed_told numbers slot free.there free.closed, small) refl

and_true : (x y : Bool) → x && y ≡ true → (x ≡ true) × (y ≡ true)
and_true true y is = (refl, is)
and_true false y is = absurd cc

free_there : (numbers : List (Option ℕ)) → has_free numbers ≡ true → (slot : ℕ) × IsFree numbers slot
free_there numbers told =
    let both = and_true (has_closed numbers) (nat_lt (newest_number numbers) (2 ^ 64 - 1)) told in
    let closed = closed_there numbers both.0 in
    (closed.0, record { there = closed.1; closed = closed.2; next = grind (arith, nat_tests, both.1) })

pub full_told : (numbers : List (Option ℕ)) → IsFull numbers → has_free numbers ≡ false
full_told numbers full = false_from_ne_true (has_free numbers) (λ told. let free = free_there numbers told in full free.0 free.1)

pub told_full : (numbers : List (Option ℕ)) → has_free numbers ≡ false → IsFull numbers
told_full numbers told slot free = let both : true ≡ false = sym (free_told numbers slot free) ∙ told in absurd cc

or_false : (x y : Bool) → x || y ≡ false → (x ≡ false) × (y ≡ false)
or_false true y is = absurd cc
or_false false y is = (refl, is)

pub full_ring : FullRing
full_ring ring len = (
  λ none. let both = or_false (fits_newest ring len) (has_free (known_numbers ring)) none in (both.0, told_full (known_numbers ring) both.1),
  λ both. rw (both.0, full_told (known_numbers ring) both.1) refl,
)

pub opened_differs : OpenedDiffers
opened_differs before after differ opened =
    let same : numbers_of after ≡ set (numbers_of before) opened.slot (Some opened.number) = ap numbers_of opened.is ∙ numbers_set before opened.slot _ in
    subst NumbersDiffer (sym same) (next_differs (numbers_of before) opened.slot opened.number opened.next differ)
