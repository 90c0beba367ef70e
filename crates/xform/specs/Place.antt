-- Where a place of a document is after a delta (quill-delta's README, "transformPosition()").
use Rattle.std.specs.Prelude.{ℕ, zero, suc, ◌+◌, Bool, List, [], length, if◌then◌else◌}
use Rattle.delta.specs.Element.{Element}
use Rattle.delta.specs.Gaps.{Gaps, End, Gap, units_kept}

-- how far what is inserted just at the place moves it: not at all where the place has priority
abbrev pub moved_by : List Element → Bool → ℕ
moved_by xs priority = if priority then 0 else length xs

-- the units inserted before the place, those inserted just there where it moves, and the units before it that are kept
abbrev pub place : Gaps → ℕ → Bool → ℕ
place (End xs) zero priority = moved_by xs priority
place (End xs) (suc i) priority = length xs + suc i
place (Gap xs f g) zero priority = moved_by xs priority
place (Gap xs f g) (suc i) priority = length xs + (units_kept f + place g i priority)

-- the delta up to a place, and from there on: what is inserted just there stands before it, but where the place has
-- priority
abbrev pub up_to : Gaps → ℕ → Bool → Gaps
up_to (End xs) zero priority = End (if priority then [] else xs)
up_to (End xs) (suc i) priority = End xs
up_to (Gap xs f g) zero priority = End (if priority then [] else xs)
up_to (Gap xs f g) (suc i) priority = Gap xs f (up_to g i priority)

abbrev pub onward : Gaps → ℕ → Bool → Gaps
onward (End xs) zero priority = End (if priority then xs else [])
onward (End xs) (suc i) priority = End []
onward (Gap xs f g) zero priority = Gap (if priority then xs else []) f g
onward (Gap xs f g) (suc i) priority = onward g i priority
