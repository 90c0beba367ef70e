-- What is told of a document.
use Rattle.std.specs.Prelude.{ℕ, if◌then◌else◌, List, Option, Some, None, Result, Ok, Err}
use Rattle.serde_json.specs.Data.{Data}
use Rattle.refusal.specs.declared.Refusal.{Refusal}
use Rattle.refusal.specs.declared.Refusal.TheVariants.{NoDocument, Deleted, StoreFailed}
use Rattle.revision.specs.Past.{newest, content_at, deltas_above}
use Rattle.revision.specs.Readings.{at_revision}
use Rattle.revision.specs.State.{DocumentRecord, State, find, revision_of, units_of, is_live}
use Rattle.session.specs.declared.question.Question.{Question}
use Rattle.session.specs.declared.question.Question.TheVariants.{Newest, At, Since}
use Rattle.session.specs.Reply.{document_reply, since_reply, line_of, refusal_line}

-- the document at its newest revision, which has to be there and not deleted
abbrev pub newest_of : List ℕ → Option (ℕ × DocumentRecord) → Result Data Refusal
newest_of doc None = Err NoDocument
newest_of doc (Some found) = if is_live found.1 then Ok (document_reply doc (units_of found.1) (revision_of found.1)) else Err Deleted

-- what is told of a document that is there or not; a revision that is asked for has to be held
abbrev pub told : List ℕ → Question → Option (ℕ × DocumentRecord) → Result Data Refusal
told doc Newest found = newest_of doc found
told doc (At revision) found = at_revision revision found (λ past. document_reply doc (content_at past revision).units revision)
told doc (Since revision) found = at_revision revision found (λ past. since_reply doc (deltas_above past revision) (newest past))

-- the line of what is told, or of the refusal
abbrev pub line_told : Result Data Refusal → List ℕ
line_told (Ok value) = line_of value
line_told (Err refusal) = refusal_line refusal

-- the line that a state gives to a question of a document
abbrev pub read_line : List ℕ → Question → State → List ℕ
read_line doc question state = line_told (told doc question (find doc 0 state.documents))

-- and that the state which is shown gives to it, if there is one
abbrev pub shown_line : List ℕ → Question → Option State → List ℕ
shown_line doc question None = refusal_line StoreFailed
shown_line doc question (Some state) = read_line doc question state
