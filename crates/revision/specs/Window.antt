-- A source's window: its last number, and the revisions that its last numbers made.
use Rattle.std.specs.Prelude.{◌≡◌, ℕ, ◌+◌, ◌-◌, ◌≤◌, ◌<◌, ◌==◌, nat_lt, nat_le, if◌then◌else◌, ◌&&◌, bytes_eq, Bool, true, Option, None, unwrap_or, List, [], ◌∷◌, ◌++◌, length, drop, slice_get, refl}
use Rattle.std.specs.Bool.{Decides}
use Rattle.std.specs.Coded.{Coded, code_by, coded×, coded_list, coded_ℕ}
use Rattle.std.proofs.Common.{ap}
use Rattle.std.proofs.lemmas.Bool.{and_parts, and_from, eqb-true, eq-eqb}
use Rattle.std.proofs.lemmas.Slice.Eq.{bytes_eq-Decides}

-- how many numbers a window has at most
abbrev pub longest : ℕ
longest = 16

-- the last number, and the revisions of the last numbers, that of the very last one at the end
pub record Window : Type 0 where
  pub number : ℕ
  pub revisions : List ℕ

-- the window of a source with nothing taken
abbrev pub nothing_taken : Window
nothing_taken = record { number = 0; revisions = [] }

-- the last of a list, as many as a window has at most
abbrev pub latest : List ℕ → List ℕ
latest revisions = drop (length revisions - longest) revisions

-- the window once a number was taken as a revision
abbrev pub taken_as : ℕ → ℕ → Window → Window
taken_as number revision window = record { number = number; revisions = latest (window.revisions ++ revision ∷ []) }

-- once the next number was, and once the next ones were as these revisions
abbrev pub taken_next : Window → ℕ → Window
taken_next window revision = taken_as (window.number + 1) revision window

abbrev pub taken_all : Window → List ℕ → Window
taken_all window [] = window
taken_all window (first ∷ others) = taken_all (taken_next window first) others

-- The revision that a number of the window made; none of any other number. The last of the revisions is that of the last number, so it
-- is counted from there.
abbrev pub revision_in : ℕ → Window → Option ℕ
revision_in number window =
    if nat_lt window.number (number + length window.revisions)
    then slice_get window.revisions (number + length window.revisions - (window.number + 1))
    else None

-- the revision of the last number, 0 where there is none
abbrev pub last_revision : Window → ℕ
last_revision window = unwrap_or (revision_in window.number window) 0

-- a number is one of the window's
pub record IsIn (number : ℕ) (window : Window) : Type 0 where
  pub above : window.number < number + length window.revisions
  pub below : number ≤ window.number

-- strictly ascending, from above the one up to the other
abbrev pub ascend : ℕ → ℕ → List ℕ → Bool
ascend low high [] = true
ascend low high (first ∷ others) = nat_lt low first && nat_le first high && ascend first high others

-- how a window is told from another
abbrev pub window_code : Coded Window
window_code = code_by (ℕ × List ℕ) (coded× coded_ℕ (coded_list coded_ℕ)) (λ w. (w.number, w.revisions)) (λ p. record { number = p.0; revisions = p.1 }) (λ _. refl)

-- the same window, by a test
abbrev pub same_window : Window → Window → Bool
same_window one other = (one.number == other.number) && bytes_eq one.revisions other.revisions

pub same_window-Decides : (one other : Window) → Decides (same_window one other) (one ≡ other)
same_window-Decides one other = (
  λ e. let parts = and_parts (one.number == other.number) (bytes_eq one.revisions other.revisions) e in
      let numbers = eqb-true one.number other.number parts.0 in
      let revisions = (bytes_eq-Decides one.revisions other.revisions).0 parts.1 in
      λ i. record { number = numbers i; revisions = revisions i },
  λ same. and_from _ _ (eq-eqb _ _ (ap (λ (w : Window). w.number) same)) ((bytes_eq-Decides _ _).1 (ap (λ (w : Window). w.revisions) same)),
)
