-- The deltas that the words of a row describe: each word is an array of operations.
use Rattle.std.specs.Prelude.{ℕ, List, Option, Some, None, Result, Err}
use Rattle.serde_json.specs.Data.{Data}
use Rattle.serde_json.specs.Find.{as_array}
use Rattle.refusal.specs.declared.Refusal.{Refusal}
use Rattle.refusal.specs.declared.Refusal.TheVariants.{BadLine}
use Rattle.delta.specs.Operation.{Operation}
use Rattle.optext.specs.Json.{value_of}
use Rattle.algebra.specs.Words.{of_array}

abbrev pub of_value : Option Data → Result (List Operation) Refusal
of_value None = Err BadLine
of_value (Some value) = of_array (as_array value)

-- the delta that a word describes, where the word is one JSON text; any value but an array is refused as BadMessage
abbrev pub delta_in : List ℕ → Result (List Operation) Refusal
delta_in word = of_value (value_of word)
