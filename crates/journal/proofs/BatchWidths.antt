-- The lengths of spelled commands and batches.
use Rattle.std.proofs.Common.{◌≡◌, ℕ, Option, Some, None, List, [], ◌∷◌, length, sum_by, refl, arith}
use Rattle.std.specs.List.{flat_map}
use Rattle.std.proofs.lemmas.List.{length-append}
use Rattle.std.proofs.lemmas.List.Sums.{sum_by-cons}
use Rattle.delta.specs.Operation.{Operation}
use Rattle.revision.specs.Command.{Taken, name_width, step_width, width_of}
use Rattle.revision.specs.declared.step.Step.{Step}
use Rattle.revision.specs.declared.step.Step.TheVariants.{Edits, Deletes, Revives}
use Rattle.std.specs.Int.{w32}
use Rattle.journal.specs.Spelling.{number}
use Rattle.journal.specs.BatchSpelling.{created_name, step_delta, entry, batch, batch_width}
use Rattle.journal.proofs.Widths.{length-number32, length-number64, length-text16}
use Rattle.journal.proofs.DeltaWidths.{length-delta}

length-created_name : (name : Option (List ℕ)) → length (created_name name) ≡ name_width name
unfolding created_name
length-created_name None = refl
length-created_name (Some name) = length-text16 name

length-step_delta : (step : Step) (change : List Operation) → length (step_delta step change) ≡ step_width step change
unfolding step_delta
length-step_delta Edits change = length-delta change
length-step_delta Deletes change = refl
length-step_delta Revives change = length-delta change

pub length-entry : (taken : Taken) → length (entry taken) ≡ width_of taken
unfolding entry
length-entry taken =
    simp length-append (omega (arith, length-number32 taken.document, length-number64 taken.revision, length-text16 taken.source, length-number64 taken.number, length-created_name taken.name, length-step_delta taken.step taken.delta))

length-entries : (commands : List Taken) → length (flat_map entry commands) ≡ sum_by width_of commands
length-entries [] = refl
length-entries (first ∷ others) =
    omega (arith, length-append (entry first) (flat_map entry others), length-entry first, length-entries others, sum_by-cons width_of first others)

pub length-batch : (commands : List Taken) → length (batch commands) ≡ batch_width commands
unfolding batch
length-batch commands = omega (arith, length-append (number w32 (length commands)) (flat_map entry commands), length-number32 (length commands), length-entries commands)
