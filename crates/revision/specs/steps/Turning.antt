-- Where among changes the document is deleted or created again.
use Rattle.std.specs.Prelude.{ℕ, zero, suc, ◌+◌, Bool, true, false, List, [], ◌∷◌}
use Rattle.revision.specs.Command.{Step, Edits, Deletes, Revives}
use Rattle.revision.specs.Past.{live_after}
use Rattle.revision.specs.declared.rule.taker.Taker.{Taker}

-- the place of a change, counted from 1, by that of what comes later, counted from there: its own where nothing does, unless it edits
abbrev pub turn_or : ℕ → Step → ℕ
turn_or (suc later) step = suc (suc later)
turn_or zero Edits = 0
turn_or zero Deletes = 1
turn_or zero Revives = 1

-- how many of the changes there are up to the last that deletes the document or creates it again, 0 where there is none
abbrev pub steps_to_last_reset : List Taker → ℕ
steps_to_last_reset [] = 0
steps_to_last_reset (first ∷ others) = turn_or (steps_to_last_reset others) first.step

-- the floor by the last step that isn't an edit
abbrev pub floor_after_reset : ℕ → ℕ → ℕ → ℕ
floor_after_reset newest floor zero = floor
floor_after_reset newest floor (suc turns) = newest + suc turns

-- whether the document is live after changes
abbrev pub live_after_takers : Bool → List Taker → Bool
live_after_takers live [] = live
live_after_takers live (first ∷ others) = live_after_takers (live_after live first.step) others

-- whether a step leaves a document live that it suits
abbrev pub leaves_live : Step → Bool
leaves_live Edits = true
leaves_live Deletes = false
leaves_live Revives = true

-- whether the document is live after changes that each suit it, by the last of them alone
abbrev pub live_by_last : Bool → List Taker → Bool
live_by_last live [] = live
live_by_last live (first ∷ others) = live_by_last (leaves_live first.step) others
