-- What a state shows as commands are taken, by what it shows alone.
use Rattle.std.specs.Prelude.{ℕ, zero, suc, ◌+◌, true, List, [], ◌∷◌, Option, Some, None, slice_get}
use Rattle.attributes.specs.Map.{empty}
use Rattle.revision.specs.Command.{Taken}
use Rattle.revision.specs.Past.{content_after}
use Rattle.revision.specs.Sources.{with_taken}
use Rattle.world.specs.Shown.{Shown}

-- a document after one command more
abbrev pub next_shown : Taken → Shown → Shown
next_shown taken found = record found {
  content = content_after found.content taken.step taken.delta;
  revision = found.revision + 1;
  sources = with_taken taken.source taken.number (found.revision + 1) found.sources;
}

-- a document that nothing was taken of yet
abbrev pub blank : List ℕ → Shown
blank name = record { name = name; content = record { units = []; live = true }; revision = 0; sources = empty }

-- the document of a command's number after it, which a command that has a name makes where there is none
abbrev pub shown_by_name : Option Shown → Taken → Option (List ℕ) → Option Shown
shown_by_name None taken None = None
shown_by_name None taken (Some name) = Some (next_shown taken (blank name))
shown_by_name (Some found) taken name = Some (next_shown taken found)

-- documents with one of a number
abbrev pub set_shown : ℕ → Option Shown → List Shown → List Shown
set_shown number None documents = documents
set_shown zero (Some document) [] = document ∷ []
set_shown (suc number) (Some document) [] = []
set_shown zero (Some document) (first ∷ others) = document ∷ others
set_shown (suc number) (Some document) (first ∷ others) = first ∷ set_shown number (Some document) others

-- documents after one command more
abbrev pub grown_shown : Taken → List Shown → List Shown
grown_shown taken documents = set_shown taken.document (shown_by_name (slice_get documents taken.document) taken taken.name) documents

-- all commands in order
abbrev pub fold_shown : List Shown → List Taken → List Shown
fold_shown documents [] = documents
fold_shown documents (first ∷ others) = fold_shown (grown_shown first documents) others
