-- Whether a body finds room in a ring.
use Rattle.std.specs.Prelude.{ℕ, ◌-◌, ◌^◌, ◌&&◌, ◌||◌, nat_lt, Bool, true, false, Option, Some, None, List, [], ◌∷◌}
use Rattle.segments.specs.declared.ring.Ring.{Ring}
use Rattle.segments.specs.Numbers.{newest_number}
use Rattle.segments.specs.Ring.{known_numbers, fits_newest}

-- a slot's gate is closed
abbrev pub has_closed : List (Option ℕ) → Bool
has_closed [] = false
has_closed (None ∷ numbers) = true
has_closed (Some number ∷ numbers) = has_closed numbers

-- a slot is free
abbrev pub has_free : List (Option ℕ) → Bool
has_free numbers = has_closed numbers && nat_lt (newest_number numbers) (2 ^ 64 - 1)

-- a body of so many bytes fits the newest segment, or a slot is free
abbrev pub has_room_for : Ring → ℕ → Bool
has_room_for ring len = fits_newest ring len || has_free (known_numbers ring)
