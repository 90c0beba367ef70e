-- The documents of a store as lines.
use Rattle.std.specs.Prelude.{List, ℕ, [], ◌∷◌, ◌++◌, if◌then◌else◌, codes}
use Rattle.std.specs.List.{flat_map}
use Rattle.std.specs.Fmt.{decimal}
use Rattle.delta.specs.Gaps.{End}
use Rattle.delta.specs.Normal.{nf}
use Rattle.algebra.specs.Text.{text_of}
use Rattle.revision.specs.State.{DocumentRecord, revision_of, units_of, is_live}

-- two parts with one blank between them
abbrev pub blank_between : List ℕ → List ℕ → List ℕ
blank_between front back = front ++ (32 ∷ back)

-- name, revision, floor and content, parted by one blank, and a line end
abbrev pub line_of : List ℕ → ℕ → ℕ → List ℕ → List ℕ
line_of name revision floor text = blank_between name (blank_between (decimal revision) (blank_between (decimal floor) (text ++ 10 ∷ [])))

-- what stands in a document: the operations, `{"ops":[..]}`, that make it of the empty document, or that it is deleted
abbrev pub content_text : DocumentRecord → List ℕ
content_text document = if is_live document then text_of (nf (End (units_of document))) else codes "deleted"

abbrev pub document_line : DocumentRecord → List ℕ
document_line document = line_of document.name (revision_of document) document.past.floor (content_text document)

-- the lines of documents in order
abbrev pub dump_of : List DocumentRecord → List ℕ
dump_of documents = flat_map document_line documents
