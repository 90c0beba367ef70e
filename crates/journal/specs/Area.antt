-- Records behind gates, and the bytes that hold a list of them.
use Rattle.std.specs.Prelude.{◌≡◌, ◌≢◌, ◌⊎◌, ℕ, ◌+◌, ◌<◌, ◌^◌, List, [], ◌∷◌, ◌++◌, length, take, drop}
use Rattle.std.specs.List.{flat_map, AllByRecursion}
use Rattle.std.specs.Int.{w32, to_le_bytes}
use Rattle.disk.specs.Device.{overwritten, SameOutside}

-- A gate stands open where its byte is this one, and is closed at every other value.
abbrev pub open_gate : ℕ
open_gate = 165

-- what stands behind a gate: the length in four bytes, and the body
abbrev pub frame : List ℕ → List ℕ
frame body = to_le_bytes w32 (length body) ++ body

-- an open record: its gate, the length, the body
abbrev pub open_record : List ℕ → List ℕ
open_record body = open_gate ∷ frame body

-- open records of these bodies, one behind another
abbrev pub open_records : List (List ℕ) → List ℕ
open_records bodies = flat_map open_record bodies

-- a body has a byte, and its length has four
pub record IsBody (body : List ℕ) : Type 0 where
  pub some : 0 < length body
  pub short : length body < 2 ^ 32

-- The bytes of an area hold these bodies: open records of them, then a closed gate, then anything.
pub record HoldsBodies (bodies : List (List ℕ)) (bytes : List ℕ) : Type 0 where
  pub gate : ℕ
  pub behind : List ℕ
  pub split : bytes ≡ open_records bodies ++ gate ∷ behind
  pub closed : gate ≢ open_gate
  pub each : AllByRecursion IsBody bodies

-- What a crash within a write behind a gate may leave: the gate unchanged, and any bytes behind it, or the new bytes
-- behind a gate of any value.
abbrev pub IsGated : ℕ → List ℕ → List ℕ → List ℕ → Type 0
IsGated gate bytes old content =
    SameOutside (gate + 1) (length bytes) old content
    ⊎ ((value : ℕ) × (content ≡ overwritten (overwritten old (gate + 1) bytes) gate (value ∷ [])))

-- where an area lies on a device, how many bytes it has, and where in it the gate of the next record stands
pub record Place : Type 0 where
  pub at : ℕ
  pub size : ℕ
  pub next : ℕ

-- the bytes of an area in the content of a device
abbrev pub area_bytes : Place → List ℕ → List ℕ
area_bytes place content = take place.size (drop place.at content)

-- an area that represents these bodies in a content
pub record Stands (content : List ℕ) (place : Place) (bodies : List (List ℕ)) : Type 0 where
  pub holds : HoldsBodies bodies (area_bytes place content)
  pub next : place.next ≡ length (open_records bodies)

-- The content after an append, or after a crash in it: the area holds the bodies with the new one or without it, and
-- outside the area nothing has changed.
pub record IsLeftByAppend (old : List ℕ) (place : Place) (bodies : List (List ℕ)) (body : List ℕ) (content : List ℕ) : Type 0 where
  pub outside : SameOutside place.at place.size old content
  pub holds : HoldsBodies bodies (area_bytes place content) ⊎ HoldsBodies (bodies ++ body ∷ []) (area_bytes place content)

-- an append that is done
pub record IsAppended (old : List ℕ) (place : Place) (bodies : List (List ℕ)) (body : List ℕ) (new : List ℕ) (after : Place) : Type 0 where
  pub outside : SameOutside place.at place.size old new
  pub stands : Stands new after (bodies ++ body ∷ [])
