-- What the steps of reading a cell's body look for, part by part.
use Rattle.std.specs.Prelude.{ℕ, ◌≡◌, ◌≤◌, ◌<◌, ◌^◌, true, List, ◌++◌, length, All}
use Rattle.std.specs.Int.{w64}
use Rattle.std.specs.List.{flat_map}
use Rattle.delta.specs.Element.{Element}
use Rattle.revision.specs.Name.{is_source_name}
use Rattle.revision.specs.Window.{longest, Window, ascend}
use Rattle.revision.specs.Sources.{Sources, count_of}
use Rattle.revision.specs.Spellable.{IsSpellable}
use Rattle.revision.specs.State.{is_window}
use Rattle.journal.specs.Spelling.{number}
use Rattle.journal.specs.DeltaSpelling.{delta}
use Rattle.milestone.specs.CellSpelling.{Format, inserts_of, spells, sources}

-- no spelling of something begins the bytes
abbrev pub BeginsNone : {X : Type 0} → (X → List ℕ) → (X → Type 0) → List ℕ → Type 0
BeginsNone {X} spell Is bytes = (x : X) (rest : List ℕ) → Is x → bytes ≡ spell x ++ rest → ⊥

-- a number above the one and up to the other
abbrev pub IsAbove : ℕ → ℕ → ℕ → Type 0
IsAbove low high n = (low < n) × (n ≤ high)

-- a number from 1 to this one
abbrev pub IsWithin : ℕ → ℕ → Type 0
IsWithin high n = (1 ≤ n) × (n ≤ high)

-- a document that has a spelling, and its bytes
abbrev pub IsContent : List Element → Type 0
IsContent units = IsSpellable (inserts_of units)

unfoldable pub content_bytes : List Element → List ℕ
content_bytes units = delta (inserts_of units)

-- how many numbers a window may have whose last number is this
abbrev pub IsCount : ℕ → ℕ → Type 0
IsCount number count = (1 ≤ count) × (count ≤ longest) × (count ≤ number)

-- so many revisions, each above the one before it and the last one up to this one, and their bytes
pub record AreRevisions (count high : ℕ) (revisions : List ℕ) : Type 0 where
  pub counted : length revisions ≡ count
  pub up : ascend 0 high revisions ≡ true

abbrev pub revisions_bytes : List ℕ → List ℕ
revisions_bytes revisions = flat_map (number w64) revisions

-- a window of a milestone at this revision, which the format spells
pub record IsWindowIn (format : Format) (revision : ℕ) (window : Window) : Type 0 where
  pub is : is_window revision window ≡ true
  pub spelled : spells format window ≡ true

-- a source of such a milestone
pub record IsSource (format : Format) (revision : ℕ) (source : List ℕ × Window) : Type 0 where
  pub named : is_source_name source.0 ≡ true
  pub window : IsWindowIn format revision source.1

-- sources of such a milestone that have a spelling, and their bytes
pub record AreSources (format : Format) (revision : ℕ) (all : Sources) : Type 0 where
  pub count : count_of all < 2 ^ 32
  pub each : All (IsSource format revision) all.entries

abbrev pub sources_bytes : Format → Sources → List ℕ
sources_bytes format all = sources format all.entries
