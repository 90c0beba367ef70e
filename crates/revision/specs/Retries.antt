-- What holds of windows as commands are taken. It holds of every value, also of such as no program makes. That it is so is promised by
-- `laws::windows`.
use Rattle.std.specs.Prelude.{◌≡◌, ◌⊎◌, ℕ, ◌+◌, ◌-◌, ◌≤◌, ◌<◌, min, map, nat_lt, slice_get, if◌then◌else◌, true, List, length, Some, None}
use Rattle.revision.specs.Window.{longest, Window, nothing_taken, taken_next, taken_all, revision_in, IsIn}
use Rattle.revision.specs.Sources.{cut, total_of}
use Rattle.revision.specs.State.{Limits, last_of_all, is_window, are_sources, window_weight}

-- Each number of a window has a revision, and no other one has.
abbrev pub AgainInWindow : Type 0
AgainInWindow = (window : Window) (number : ℕ) → IsIn number window → (revision : ℕ) × (revision_in number window ≡ Some revision)

abbrev pub NoneOutside : Type 0
NoneOutside = (window : Window) (number : ℕ) → ¬ (IsIn number window) → revision_in number window ≡ None

-- A command that is taken shifts the window: the next number has its revision, there is one revision more up to the most that there may
-- be, each number before that is still in it has the revision that it had, and a number below has none.
pub record IsShifted (window : Window) (revision : ℕ) (next : Window) : Type 0 where
  pub number : next.number ≡ window.number + 1
  pub count : length next.revisions ≡ min longest (length window.revisions + 1)
  pub newest : revision_in (window.number + 1) next ≡ Some revision
  pub older : (number : ℕ) → IsIn number next → number ≤ window.number → revision_in number next ≡ revision_in number window
  pub dropped : (number : ℕ) → number + length next.revisions ≤ next.number → revision_in number next ≡ None

abbrev pub Shifts : Type 0
Shifts = (window : Window) (revision : ℕ) → IsShifted window revision (taken_next window revision)

-- What a source may have at a revision becomes what it may have at a later one.
abbrev pub StaysWindow : Type 0
StaysWindow = (now later : ℕ) (window : Window) → now < later → window.number + 1 ≤ last_of_all → is_window now window ≡ true
    → is_window later (taken_next window later) ≡ true

-- As commands are taken, a number keeps its revision as long as it is in the window.
abbrev pub OneRevision : Type 0
OneRevision = (window : Window) (taken : List ℕ) (number revision : ℕ) → number ≤ window.number
    → revision_in number (taken_all window taken) ≡ Some revision → revision_in number window ≡ Some revision

-- It is in the window until as many later ones were taken as a window has at most.
abbrev pub AgainForLong : Type 0
AgainForLong = (window : Window) (taken : List ℕ) (number revision : ℕ) → revision_in number window ≡ Some revision
    → (taken_all window taken).number < number + longest → revision_in number (taken_all window taken) ≡ Some revision

-- Where a number has a revision after commands, one of these took it, or it had that before them.
abbrev pub TakenOrHad : Type 0
TakenOrHad = (window : Window) (taken : List ℕ) (number revision : ℕ) → revision_in number (taken_all window taken) ≡ Some revision
    → ((window.number < number) × (number ≤ window.number + length taken)) ⊎ (revision_in number window ≡ Some revision)

-- Sources with their last numbers alone may be so at a revision where they may be so with all. They weigh as much as with all where a
-- further number weighs nothing.
abbrev pub CutStays : Type 0
CutStays = (revision : ℕ) (entries : List (List ℕ × Window)) → are_sources revision entries ≡ true → are_sources revision (map cut entries) ≡ true

abbrev pub CutWeighs : Type 0
CutWeighs = (limits free : Limits) (entries : List (List ℕ × Window)) → limits.retry ≤ 64 → free.retry ≡ 0
    → total_of (window_weight limits) (map cut entries) ≡ total_of (window_weight free) entries

-- For a source with nothing taken before them, the commands' numbers are their places, counted from 1: a number among the last ones
-- has the revision that stands at its place.
abbrev pub FromNothing : Type 0
FromNothing = (taken : List ℕ) (number : ℕ) → 1 ≤ number → revision_in number (taken_all nothing_taken taken)
    ≡ (if nat_lt (length taken) (number + longest) then slice_get taken (number - 1) else None)
