-- The deltas that the words of a command describe: each word is a text `{"ops":[..]}`.
use Rattle.std.specs.Prelude.{ℕ, ◌==◌, if◌then◌else◌, List, codes, Option, Some, None, option_and_then, Result, Ok, Err}
use Rattle.serde_json.specs.Data.{Data, Items}
use Rattle.serde_json.specs.Find.{get, as_array}
use Rattle.refusal.specs.declared.Refusal.{Refusal}
use Rattle.refusal.specs.declared.Refusal.TheVariants.{BadLine, BadMessage}
use Rattle.delta.specs.Operation.{Operation}
use Rattle.optext.specs.Described.{member_count, delta_of}
use Rattle.optext.specs.Json.{value_of}

-- the array `ops` of an object that has no other member
abbrev pub array_in : Data → Option Items
array_in value = if member_count value == 1 then option_and_then as_array (get (codes "ops") value) else None

-- the delta that an array describes, which has at most 1,024 operations
abbrev pub of_array : Option Items → Result (List Operation) Refusal
of_array None = Err BadMessage
of_array (Some items) = delta_of items

abbrev pub of_value : Option Data → Result (List Operation) Refusal
of_value None = Err BadLine
of_value (Some value) = of_array (array_in value)

-- the delta that a word describes, where the word is one JSON text
abbrev pub delta_in : List ℕ → Result (List Operation) Refusal
delta_in word = of_value (value_of word)

-- two results as one pair; else the refusal of the first that is refused
abbrev pub pair_of : {X : Type 0} → Result X Refusal → Result X Refusal → Result (X × X) Refusal
pair_of (Ok x) (Ok y) = Ok (x, y)
pair_of (Ok x) (Err other) = Err other
pair_of (Err one) _ = Err one

-- the deltas that two words describe: they are read from left to right, each to its end
abbrev pub deltas_in : List ℕ → List ℕ → Result (List Operation × List Operation) Refusal
deltas_in first second = pair_of (delta_in first) (delta_in second)
