-- Lines: the input is cut at each byte 10.
use Rattle.std.specs.Prelude.{◌≡◌, ◌≢◌, ◌⊎◌, ℕ, ◌==◌, ◌++◌, if◌then◌else◌, List, [], ◌∷◌, length, Option, Some, None}
use Rattle.session.specs.declared.line.Event.{Event}
use Rattle.session.specs.declared.line.Event.TheVariants.{More, TooLong, Complete}

-- the bytes of the line so far, none while the rest of a line that is too long is dropped
abbrev pub Partial : Type 0
Partial = Option (List ℕ)

-- a line that has 65,536 bytes has no room for a further one
abbrev pub with_text_byte : List ℕ → ℕ → Event × Partial
with_text_byte bytes byte = if length bytes == 65536 then (TooLong, None) else (More, Some (bytes ++ byte ∷ []))

-- what one byte makes of the line so far
abbrev pub with_byte : Partial → ℕ → Event × Partial
with_byte None byte = (More, if byte == 10 then Some [] else None)
with_byte (Some bytes) byte = if byte == 10 then (Complete, Some bytes) else with_text_byte bytes byte

-- a line has no end within it
abbrev pub HasNoEnd : List ℕ → Type 0
HasNoEnd [] = Unit {0}
HasNoEnd (byte ∷ bytes) = (byte ≢ 10) × HasNoEnd bytes

-- the line continues through all of these bytes
abbrev pub RunsThrough : Partial → List ℕ → Partial → Type 0
RunsThrough old [] new = new ≡ old
RunsThrough old (byte ∷ bytes) new = (next : Partial) × (with_byte old byte ≡ (More, next)) × RunsThrough next bytes new

-- at the front of these bytes the line ends, or has no room for more, or there are none
abbrev pub StopsAt : Partial → List ℕ → Type 0
StopsAt line [] = Unit {0}
StopsAt line (byte ∷ bytes) = (byte ≡ 10) ⊎ (with_byte line byte ≡ (TooLong, None))

-- The text in front of a piece is taken into the line, one byte after another: all of it up to a line end, or as much as there is room for.
pub record TakesText (old : Partial) (piece : List ℕ) (new : Partial) (rest : List ℕ) : Type 0 where
  pub text : List ℕ
  pub whole : piece ≡ text ++ rest
  pub inner : HasNoEnd text
  pub goes_on : RunsThrough old text new
  pub stops : StopsAt new rest
