-- How operations are spelled, piece by piece.
use Rattle.std.specs.Prelude.{◌≡◌, ℕ, List, [], ◌∷◌, ◌++◌, codes}
use Rattle.delta.specs.Element.{Element}
use Rattle.delta.specs.Normal.{spell_inserts}
use Rattle.delta.specs.Operation.{Operation}
use Rattle.document.specs.Runs.{units_of_runs, AreRuns}
use Rattle.serde_json.specs.Data.{Members, no_members, member, object}
use Rattle.serde_json.specs.Written.{compact_text}

-- How an operation's object begins: with the member `attributes` where there are any
abbrev pub opening : Members → List ℕ
opening no_members = codes "{"
opening (member name value others) = codes "{\"attributes\":" ++ (compact_text (object (member name value others)) ++ codes ",")

-- The operation inserts a run: before any runs with which it makes up runs of a document, it stands before the operations that insert these.
abbrev pub InsertsRun : List Element → Operation → Type 0
InsertsRun run op =
    (behind : List (List Element)) → AreRuns (run ∷ behind)
    → spell_inserts (units_of_runs (run ∷ behind)) [] ≡ op ∷ spell_inserts (units_of_runs behind) []
