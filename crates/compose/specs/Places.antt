-- A gap form, place by place. Units after its last are kept as they are, with nothing inserted between them.
use Rattle.std.specs.Prelude.{List, []}
use Rattle.attributes.specs.Map.{empty}
use Rattle.delta.specs.Element.{Element}
use Rattle.delta.specs.Gaps.{Gaps, End, Gap, Fate, Keep}

-- what is inserted before the first unit
abbrev pub inserts : Gaps → List Element
inserts (End xs) = xs
inserts (Gap xs f g) = xs

-- what becomes of the first unit
abbrev pub fate : Gaps → Fate
fate (End xs) = Keep empty
fate (Gap xs f g) = f

-- what is left for the units after the first
abbrev pub tail : Gaps → Gaps
tail (End xs) = End []
tail (Gap xs f g) = g
