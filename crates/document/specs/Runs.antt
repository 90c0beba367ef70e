-- A document in runs: a run is seen as its units, and the document as those of all its runs.
use Rattle.std.specs.Prelude.{◌≡◌, ◌≢◌, ◌<◌, List, [], ◌∷◌, ◌++◌, length, Option, Some, None}
use Rattle.attributes.specs.Attributes.{Attributes}
use Rattle.delta.specs.Element.{Element, Item, code_unit, embed}
use Rattle.document.specs.Pairs.{IsWellFormed}

-- the units of all runs
abbrev pub units_of_runs : List (List Element) → List Element
units_of_runs [] = []
units_of_runs (r ∷ rs) = r ++ units_of_runs rs

-- the attributes of a run of text; an embed has none here, since it never merges
abbrev pub item_attributes : Item → Attributes → Option Attributes
item_attributes (code_unit u) a = Some a
item_attributes (embed key value) a = None

abbrev pub text_attributes : List Element → Option Attributes
text_attributes [] = None
text_attributes (x ∷ r) = item_attributes x.item x.attributes

-- not two texts of equal attributes
abbrev pub IsApart : Option Attributes → Option Attributes → Type 0
IsApart (Some a) (Some b) = a ≢ b
IsApart _ _ = Unit {0}

-- a run has a unit, and is well formed by itself
abbrev pub IsRun : List Element → Type 0
IsRun r = (0 < length r) × IsWellFormed r

-- runs, where no two neighbours are texts of equal attributes
abbrev pub AreRuns : List (List Element) → Type 0
AreRuns [] = Unit {0}
AreRuns (r ∷ []) = IsRun r
AreRuns (r ∷ s ∷ rs) = IsRun r × (IsApart (text_attributes r) (text_attributes s) × AreRuns (s ∷ rs))

-- the last run is a text of these attributes, and takes more units in
abbrev pub TakesText : List (List Element) → List (List Element) → List Element → Attributes → Type 0
TakesText old new more a =
    (before : List (List Element)) × (last : List Element) × (old ≡ before ++ last ∷ []) × (text_attributes last ≡ Some a) × (new ≡ before ++ (last ++ more) ∷ [])

-- the attributes of the last run of text; none where there is no run, or an embed is last
abbrev pub last_attributes : List (List Element) → Option Attributes
last_attributes [] = None
last_attributes (r ∷ []) = text_attributes r
last_attributes (r ∷ s ∷ rs) = last_attributes (s ∷ rs)

-- those of the first
abbrev pub first_attributes : List (List Element) → Option Attributes
first_attributes [] = None
first_attributes (r ∷ rs) = text_attributes r
