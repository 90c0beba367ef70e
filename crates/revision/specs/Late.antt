-- An edit that was made on an older revision, as it is on the newest one (ShareDB speaks so of late edits; that the deltas
-- taken since are passed one by one, each with priority, is this project's own).
use Rattle.std.specs.Prelude.{ℕ, ◌+◌, ◌≤◌, ◌<◌, ◌^◌, List, [], ◌∷◌, length, All}
use Rattle.delta.specs.Element.{Element}
use Rattle.delta.specs.Operation.{Operation, insert_text, insert_embed, retain, delete, base_of, out_of}
use Rattle.delta.specs.Gaps.{counted, apply}
use Rattle.document.specs.Weight.{weight_of}
use Rattle.xform.specs.After.{second_past_all}

-- an edit past each delta that was taken since its base, in turn from the oldest, which was taken first and so has priority
abbrev pub late : List Operation → List (List Operation) → List Operation
late edit since = second_past_all since edit

-- how many units an operation, a delta, and several deltas insert
abbrev pub op_inserted : Operation → ℕ
op_inserted (insert_text us a) = length us
op_inserted (insert_embed key value a) = 1
op_inserted (retain n c) = 0
op_inserted (delete n) = 0

abbrev pub inserted_of : List Operation → ℕ
inserted_of [] = 0
inserted_of (op ∷ ops) = op_inserted op + inserted_of ops

abbrev pub all_inserted : List (List Operation) → ℕ
all_inserted [] = 0
all_inserted (taken ∷ others) = inserted_of taken + all_inserted others

-- There is room for an edit past these deltas: each of its lengths, and all that they insert, are together within the bound
-- of 2^48. Each delta that an edit passes lengthens it by what that delta inserts, at most.
pub record HasRoom (edit : List Operation) (since : List (List Operation)) : Type 0 where
  pub base : base_of edit + all_inserted since ≤ 2 ^ 48
  pub out : out_of edit + all_inserted since ≤ 2 ^ 48

-- there is room past them for each delta that a command may have
abbrev pub HasCommandRoom : List (List Operation) → Type 0
HasCommandRoom since = (edit : List Operation) → base_of edit ≤ 2 ^ 44 → out_of edit ≤ 2 ^ 44 → HasRoom edit since

-- a delta inserts no more units than the document has after it
abbrev pub InsertedStay : Type 0
InsertedStay = (units : List Element) (taken : List Operation) → base_of taken ≤ length units
    → inserted_of taken ≤ length (apply units (counted taken))

-- a command's delta has room past all that a document holds: at most 65,536 deltas, each inserting at most 2^29 units
abbrev pub RoomForCommands : Type 0
RoomForCommands = (edit : List Operation) (since : List (List Operation)) → base_of edit ≤ 2 ^ 44 → out_of edit ≤ 2 ^ 44
    → length since ≤ 65536 → All (λ taken. inserted_of taken ≤ 2 ^ 29) since → HasRoom edit since

-- so have what takes one of them back, and the document that they stand on
abbrev pub RoomForUndo : Type 0
RoomForUndo = (units : List Element) (deltas : List (List Operation)) → length units ≤ 2 ^ 29
    → length deltas ≤ 65536 → All (λ taken. inserted_of taken ≤ 2 ^ 29) deltas → length units + all_inserted deltas ≤ 2 ^ 48

-- a delta inserts no more than 2^29 units where the document after it weighs less than 2^32, as every limit of a weight is
abbrev pub LightInserts : Type 0
LightInserts = (units : List Element) (taken : List Operation) → base_of taken ≤ length units
    → weight_of (apply units (counted taken)) < 2 ^ 32 → inserted_of taken ≤ 2 ^ 29
