-- What a milestone is: a document at a revision, whose name, revision, content and sources are such as can be.
use Rattle.std.specs.Prelude.{◌≡◌, ℕ, ◌≤◌, true, List, refl}
use Rattle.std.specs.Coded.{Coded, code_by, coded×, coded_list, coded_ℕ}
use Rattle.revision.specs.Name.{is_document_name}
use Rattle.revision.specs.Past.{Content, is_content, content_code}
use Rattle.revision.specs.Sources.{Sources, sources_code, are_named}
use Rattle.revision.specs.State.{last_of_all, are_sources}
use Rattle.history.specs.Cell.{Cell}

-- A milestone has a document's name, a revision from 1 to 2^53 - 1, a content, in which nothing stands where the document is deleted, and
-- sources: each has a source's name, and a window as one may have at the revision.
pub record IsMilestone (cell : Cell) : Type 0 where
  pub name : is_document_name cell.name ≡ true
  pub first : 1 ≤ cell.revision
  pub last : cell.revision ≤ last_of_all
  pub content : is_content cell.content ≡ true
  pub named : are_named cell.sources.entries ≡ true
  pub sources : are_sources cell.revision cell.sources.entries ≡ true

-- how a cell is told from another
abbrev pub cell_code : Coded Cell
cell_code =
    code_by (List ℕ × (ℕ × (Content × Sources))) (coded× (coded_list coded_ℕ) (coded× coded_ℕ (coded× content_code sources_code)))
    (λ c. (c.name, (c.revision, (c.content, c.sources))))
    (λ p. record { name = p.0; revision = p.1.0; content = p.1.1.0; sources = p.1.1.1 }) (λ _. refl)
