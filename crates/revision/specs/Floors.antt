-- A past from higher floors on, and with changes more: what comes of one in whichever order.
use Rattle.std.specs.Prelude.{◌≡◌, ℕ, ◌+◌, ◌≤◌, max, min, List, [], ◌∷◌, ◌++◌}
use Rattle.revision.specs.Command.{Step}
use Rattle.revision.specs.Sources.{with_taken}
use Rattle.revision.specs.State.{DocumentRecord}
use Rattle.revision.specs.Past.{Change, Past, content_after, newest, newest_content, newest_sources, content_at, sources_at, from_floor, with_step}

-- the past with a change more and nothing let go
abbrev pub longer : Past → Change → Past
longer past change = record past { changes = past.changes ++ change ∷ [] }

-- the past from a revision on: from its floor on where that is higher, and from its newest revision on where that is lower
abbrev pub raised : ℕ → Past → Past
raised revision past = from_floor past (max past.floor (min revision (newest past)))

-- each of the first documents from the revision on that stands at its place
abbrev pub raised_each : List ℕ → List DocumentRecord → List DocumentRecord
raised_each [] documents = documents
raised_each (floor ∷ floors) [] = []
raised_each (floor ∷ floors) (first ∷ others) = record first { past = raised floor first.past } ∷ raised_each floors others

-- from its own floor on it is itself
abbrev pub FromItself : Type 0
FromItself = (past : Past) → from_floor past past.floor ≡ past

-- from a floor on and then from a higher one on is from the higher one on
abbrev pub FromTwice : Type 0
FromTwice = (past : Past) (first second : ℕ) → past.floor ≤ first → first ≤ second → from_floor (from_floor past first) second ≡ from_floor past second

-- the newest revision stays
abbrev pub FromNewest : Type 0
FromNewest = (past : Past) (floor : ℕ) → past.floor ≤ floor → floor ≤ newest past → newest (from_floor past floor) ≡ newest past

-- a change more, before or after
abbrev pub FromLonger : Type 0
FromLonger = (past : Past) (floor : ℕ) (change : Change) → past.floor ≤ floor → floor ≤ newest past
    → longer (from_floor past floor) change ≡ from_floor (longer past change) floor

-- a step makes the next revision, the content there by its delta, and the sources there by its source
abbrev pub StepMakes : Type 0
StepMakes = (keep : ℕ) (past : Past) (step : Step) (change : Change) → (newest (with_step keep past step change) ≡ newest past + 1)
    × (content_at (with_step keep past step change) (newest past + 1) ≡ content_after (newest_content past) step change.delta)
    × (sources_at (with_step keep past step change) (newest past + 1)
    ≡ with_taken change.source change.number (newest past + 1) (newest_sources past))
