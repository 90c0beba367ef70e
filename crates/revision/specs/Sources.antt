-- The sources of a document.
use Rattle.std.specs.Prelude.{◌≡◌, ℕ, ◌+◌, ◌||◌, ◌&&◌, Bool, true, false, Option, Some, None, List, [], ◌∷◌, length, unwrap_or, refl}
use Rattle.std.specs.Ordering.{eq_by_cmp}
use Rattle.std.specs.Coded.{Coded, code_by, coded×}
use Rattle.std.specs.Bool.{Decides}
use Rattle.attributes.specs.Map.{Map, by_bytes, get, insert, remove, map_code, same_map_by, same_map_by-Decides}
use Rattle.revision.specs.Name.{is_source_name}
use Rattle.revision.specs.Window.{Window, nothing_taken, taken_as, last_revision, window_code, same_window, same_window-Decides}

-- each source's window, by the sources' names in the order of their bytes
abbrev pub Sources : Type 0
Sources = Map Window

-- what a source has, the empty window where it isn't there
abbrev pub window_of : List ℕ → Sources → Window
window_of source sources = unwrap_or (get sources source) nothing_taken

-- a source with its last number alone
abbrev pub cut : List ℕ × Window → List ℕ × Window
cut source = (source.0, record { number = source.1.number; revisions = last_revision source.1 ∷ [] })

-- how many sources there are
abbrev pub count_of : Sources → ℕ
count_of sources = length sources.entries

-- what windows come to together, by what each comes to
abbrev pub total_of : (Window → ℕ) → List (List ℕ × Window) → ℕ
total_of count [] = 0
total_of count (first ∷ others) = count first.1 + total_of count others

-- the sources after a source's command of this number was taken as this revision
abbrev pub with_taken : List ℕ → ℕ → ℕ → Sources → Sources
with_taken source number revision sources = insert sources source (taken_as number revision (window_of source sources))

-- each of these has the name of a source
abbrev pub are_named : List (List ℕ × Window) → Bool
are_named [] = true
are_named (first ∷ others) = is_source_name first.0 && are_named others

-- how sources are told apart
abbrev pub sources_code : Coded Sources
sources_code = map_code window_code

-- the same sources with the same windows, by a test
abbrev pub same_sources : Sources → Sources → Bool
same_sources = same_map_by same_window

pub same_sources-Decides : (one other : Sources) → Decides (same_sources one other) (one ≡ other)
same_sources-Decides = same_map_by-Decides same_window same_window-Decides

-- the sources that are accepted, and those after what is prepared
pub record Table : Type 0 where
  pub accepted : Sources
  pub prepared : Sources

abbrev pub table_code : Coded Table
table_code = code_by (Sources × Sources) (coded× sources_code sources_code) (λ t. (t.accepted, t.prepared)) (λ p. record { accepted = p.0; prepared = p.1 }) (λ _. refl)

-- the sources with what one has, or without it
abbrev pub with_entry : List ℕ → Option Window → Sources → Sources
with_entry source None sources = remove sources source
with_entry source (Some window) sources = insert sources source window

-- a source is one of these
abbrev pub is_among : List ℕ → List (List ℕ) → Bool
is_among source [] = false
is_among source (first ∷ others) = eq_by_cmp by_bytes source first || is_among source others

-- the two have the same but for these sources
abbrev pub EqualBut : List (List ℕ) → Sources → Sources → Type 0
EqualBut names one other = (source : List ℕ) → is_among source names ≡ false → get one source ≡ get other source
