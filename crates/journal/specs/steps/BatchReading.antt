-- Reading of the spelling of batches on lists: a value with the bytes behind it, or none. Private to the reader's proof.
use Rattle.std.specs.Prelude.{ℕ, zero, suc, ◌==◌, ◌^◌, nat_lt, if◌then◌else◌, Option, Some, None, List, [], ◌∷◌, length}
use Rattle.std.specs.Int.{w32, w64}
use Rattle.revision.specs.Name.{is_source_name, is_document_name}
use Rattle.revision.specs.Command.{Taken}
use Rattle.revision.specs.declared.step.Step.TheVariants.{Edits, Deletes, Revives}
use Rattle.journal.specs.steps.Reading.{◌>>=◌, number_at, fixed_at, within_at, byte_at, name_at}
use Rattle.journal.specs.steps.DeltaReading.{delta_at}

-- a creation, behind its tag
unfoldable pub creation_at : List ℕ → Option (Taken × List ℕ)
creation_at bytes = do
  document ← number_at w32 bytes
  revised ← fixed_at w64 1 document.1
  source ← name_at is_source_name revised
  numbered ← fixed_at w64 1 source.1
  name ← name_at is_document_name numbered
  delta ← delta_at name.1
  Some (record { document = document.0; name = Some name.0; revision = 1; source = source.0; number = 1; step = Edits; delta = delta.0 }, delta.1)

-- an edit or undo, behind its tag
unfoldable pub edit_at : List ℕ → Option (Taken × List ℕ)
edit_at bytes = do
  document ← number_at w32 bytes
  revision ← within_at w64 2 (2 ^ 53) document.1
  source ← name_at is_source_name revision.1
  n ← within_at w64 0 (2 ^ 53) source.1
  delta ← delta_at n.1
  Some (record { document = document.0; name = None; revision = revision.0; source = source.0; number = n.0; step = Edits; delta = delta.0 }, delta.1)

-- a deletion, behind its tag
unfoldable pub deletion_at : List ℕ → Option (Taken × List ℕ)
deletion_at bytes = do
  document ← number_at w32 bytes
  revision ← within_at w64 2 (2 ^ 53) document.1
  source ← name_at is_source_name revision.1
  n ← within_at w64 0 (2 ^ 53) source.1
  Some (record { document = document.0; name = None; revision = revision.0; source = source.0; number = n.0; step = Deletes; delta = [] }, n.1)

-- a creation of a document that is deleted, behind its tag
unfoldable pub revival_at : List ℕ → Option (Taken × List ℕ)
revival_at bytes = do
  document ← number_at w32 bytes
  revision ← within_at w64 3 (2 ^ 53) document.1
  source ← name_at is_source_name revision.1
  n ← within_at w64 0 (2 ^ 53) source.1
  delta ← delta_at n.1
  Some (record { document = document.0; name = None; revision = revision.0; source = source.0; number = n.0; step = Revives; delta = delta.0 }, delta.1)

-- the command that stands behind a tag
unfoldable pub entry_behind : ℕ → List ℕ → Option (Taken × List ℕ)
entry_behind tag bytes =
    if tag == 1 then creation_at bytes
    else if tag == 2 then edit_at bytes
    else if tag == 3 then deletion_at bytes
    else if tag == 4 then revival_at bytes
    else None

unfoldable pub entry_at : List ℕ → Option (Taken × List ℕ)
entry_at bytes = do
  tag ← byte_at bytes
  entry_behind tag.0 tag.1

-- so many entries
unfoldable pub entries_at : ℕ → List ℕ → Option (List Taken × List ℕ)
entries_at zero bytes = Some ([], bytes)
entries_at (suc n) bytes = do
  first ← entry_at bytes
  others ← entries_at n first.1
  Some (first.0 ∷ others.0, others.1)

-- a batch, and what is behind it
unfoldable pub batch_at : List ℕ → Option (List Taken × List ℕ)
batch_at bytes = do
  count ← number_at w32 bytes
  if nat_lt 0 count.0 then entries_at count.0 count.1 else None

-- a batch and nothing behind it
unfoldable pub whole_at : List ℕ → Option (List Taken)
whole_at bytes = do
  batch ← batch_at bytes
  if length batch.1 == 0 then Some batch.0 else None
