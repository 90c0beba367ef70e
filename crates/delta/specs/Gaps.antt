-- Counting out: what a delta does at each place, unit by unit, however its operations are cut.
use Rattle.std.specs.Prelude.{ℕ, zero, suc, ◌+◌, List, [], ◌∷◌, ◌++◌, length}
use Rattle.attributes.specs.Attributes.{Changes, changed}
use Rattle.delta.specs.Element.{Element, letters, embedded}
use Rattle.delta.specs.Operation.{Operation, insert_text, insert_embed, retain, delete}

-- what becomes of a unit of the document
pub data Fate : Type 0 where
  Del : Fate
  Keep : Changes → Fate

-- for each unit what is inserted before it and its fate, and at the end what is inserted there. Units after the last are kept.
pub data Gaps : Type 0 where
  End : List Element → Gaps
  Gap : List Element → Fate → Gaps → Gaps

-- units inserted before all others
abbrev pub front : List Element → Gaps → Gaps
front xs (End ys) = End (xs ++ ys)
front xs (Gap ys f g) = Gap (xs ++ ys) f g

-- n units of one fate, with nothing inserted before them
abbrev pub run : ℕ → Fate → Gaps → Gaps
run zero f g = g
run (suc n) f g = Gap [] f (run n f g)

-- the operations, counted out
abbrev pub counted : List Operation → Gaps
counted [] = End []
counted (insert_text us a ∷ ops) = front (letters us a) (counted ops)
counted (insert_embed key value a ∷ ops) = front (embedded key value a ∷ []) (counted ops)
counted (retain n c ∷ ops) = run n (Keep c) (counted ops)
counted (delete n ∷ ops) = run n Del (counted ops)

-- one after the other: the second stands where the first ends
abbrev pub joined : Gaps → Gaps → Gaps
joined (End xs) h = front xs h
joined (Gap xs f g) h = Gap xs f (joined g h)

-- how many units it speaks of
abbrev pub units_below : Gaps → ℕ
units_below (End xs) = 0
units_below (Gap xs f g) = suc (units_below g)

-- how many units of a fate are left
abbrev pub units_kept : Fate → ℕ
units_kept Del = 0
units_kept (Keep c) = 1

-- how many units a gap form inserts and keeps
abbrev pub units_made : Gaps → ℕ
units_made (End xs) = length xs
units_made (Gap xs f g) = length xs + (units_kept f + units_made g)

-- a unit by its fate
abbrev pub fated : Fate → Element → List Element
fated Del x = []
fated (Keep c) x = record x { attributes = changed x.attributes c } ∷ []

-- a document after a delta. It may end first only where the delta isn't defined on it (`IsDefined`), so nothing is ever
-- applied there: what the definition says of it, that of the delta what is inserted is left, makes it total, and no law needs
-- the premise for that.
abbrev pub apply : List Element → Gaps → List Element
apply d (End xs) = xs ++ d
apply [] (Gap xs f g) = xs ++ apply [] g
apply (x ∷ d) (Gap xs f g) = xs ++ (fated f x ++ apply d g)
