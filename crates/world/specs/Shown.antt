-- What a state shows of its documents, however far back it holds them.
use Rattle.std.specs.Prelude.{ℕ, List, map}
use Rattle.revision.specs.Past.{Content}
use Rattle.revision.specs.Sources.{Sources}
use Rattle.revision.specs.State.{DocumentRecord, State, revision_of, content_of, sources_of}

-- a document's name, and its content, revision and sources as they are now
pub record Shown : Type 0 where
  pub name : List ℕ
  pub content : Content
  pub revision : ℕ
  pub sources : Sources

abbrev pub shown : DocumentRecord → Shown
shown document = record {
  name = document.name;
  content = content_of document;
  revision = revision_of document;
  sources = sources_of document;
}

abbrev pub all_shown : State → List Shown
all_shown state = map shown state.documents
