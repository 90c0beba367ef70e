-- Commands that each have their place in an order, and a source's window after them.
use Rattle.std.specs.Prelude.{◌≡◌, ℕ, zero, suc, ◌+◌, true, false, cond, List, [], ◌∷◌, length, Option, Some, None, bytes_eq}
use Rattle.revision.specs.Window.{Window, nothing_taken}
use Rattle.revision.specs.Command.{Taken}
use Rattle.revision.specs.Sources.{window_of}
use Rattle.world.specs.World.{Entry, takens}
use Rattle.world.specs.Shown.{Shown}
use Rattle.world.specs.steps.Showing.{grown_shown, fold_shown}

-- a source's window in the document of a name, the empty one where there is none
abbrev pub window_in : List ℕ → List ℕ → List Shown → Window
window_in name source [] = nothing_taken
window_in name source (first ∷ others) = cond (bytes_eq first.name name) (window_of source first.sources) (window_in name source others)

-- no document has this name
abbrev pub IsNew : List ℕ → List Shown → Type 0
IsNew name [] = Unit {0}
IsNew name (first ∷ others) = (bytes_eq first.name name ≡ false) × IsNew name others

-- the document of this name has this number, and this revision is its next one
abbrev pub IsNextAt : List ℕ → ℕ → ℕ → List Shown → Type 0
IsNextAt name revision number [] = ⊥
IsNextAt name revision zero (first ∷ others) = (bytes_eq first.name name ≡ true) × (revision ≡ first.revision + 1)
IsNextAt name revision (suc number) (first ∷ others) = (bytes_eq first.name name ≡ false) × IsNextAt name revision number others

-- a command's place: in the document of its name, which is the next new one where it makes it
abbrev pub HasPlace : List ℕ → Taken → List Shown → Option (List ℕ) → Type 0
HasPlace name taken documents None = IsNextAt name taken.revision taken.document documents
HasPlace name taken documents (Some new) = (new ≡ name) × (taken.document ≡ length documents) × (taken.revision ≡ 1) × IsNew name documents

-- a command that these documents took: it is its source's next one, and has its place
pub record Placed (documents : List Shown) (entry : Entry) : Type 0 where
  pub source : entry.taken.source ≡ entry.command.source
  pub number : entry.taken.number ≡ entry.command.number
  pub next : entry.command.number ≡ (window_in entry.command.name entry.command.source documents).number + 1
  pub place : HasPlace entry.command.name entry.taken documents entry.taken.name

-- each command has its place in the documents that those before it leave
abbrev pub AllPlaced : List Shown → List Entry → Type 0
AllPlaced documents [] = Unit {0}
AllPlaced documents (first ∷ others) = Placed documents first × AllPlaced (grown_shown first.taken documents) others

-- what is shown after these
abbrev pub after : List Shown → List Entry → List Shown
after documents entries = fold_shown documents (takens entries)
