-- The way back from a delta on a document (quill-delta's README, "invert()").
use Rattle.std.specs.Prelude.{List, [], ◌∷◌, length}
use Rattle.attributes.specs.Attributes.{reverted}
use Rattle.delta.specs.Element.{Element}
use Rattle.delta.specs.Gaps.{Gaps, End, Gap, Fate, Del, Keep, front, run}

-- one unit back: inserted again where it was deleted; else with its old value, or without one, at each name whose value
-- has changed
abbrev pub unit_back : Fate → Element → Gaps → Gaps
unit_back Del x g = front (x ∷ []) g
unit_back (Keep c) x g = Gap [] (Keep (reverted c x.attributes)) g

-- the inverse of a gap form on a document: it stands over the document after it, and deletes each inserted unit
abbrev pub inverse : Gaps → List Element → Gaps
inverse (End xs) d = run (length xs) Del (End [])
inverse (Gap xs f g) [] = run (length xs) Del (inverse g [])
inverse (Gap xs f g) (x ∷ d) = run (length xs) Del (unit_back f x (inverse g d))
