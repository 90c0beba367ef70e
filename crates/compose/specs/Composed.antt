-- One gap form for two, the second over what the first leaves (quill-delta's README, "compose()").
use Rattle.std.specs.Prelude.{List, [], ◌∷◌, ◌++◌}
use Rattle.attributes.specs.Attributes.{Changes, composed as change_composed}
use Rattle.delta.specs.Element.{Element}
use Rattle.delta.specs.Operation.{Operation}
use Rattle.delta.specs.Gaps.{Gaps, End, Gap, Fate, Del, Keep, front, fated, counted}
use Rattle.delta.specs.Normal.{nf}
use Rattle.compose.specs.Places.{inserts, fate, tail}

-- inserted units after a gap form that stands over them: each with what is inserted before it, changed or dropped
abbrev pub units_after : List Element → Gaps → List Element
units_after [] b = []
units_after (x ∷ xs) b = inserts b ++ (fated (fate b) x ++ units_after xs (tail b))

-- what is left of the gap form after them
abbrev pub beyond : List Element → Gaps → Gaps
beyond [] b = b
beyond (x ∷ xs) b = beyond xs (tail b)

-- a unit kept with a change, and then its second fate
abbrev pub kept_then : Changes → Fate → Fate
kept_then c Del = Del
kept_then c (Keep d) = Keep (change_composed c d)

-- the first, and then the second: the second changes or drops what the first inserts; a unit that the first keeps has
-- both fates in turn; one that the first deletes the second never sees
abbrev pub composed : Gaps → Gaps → Gaps
composed (End xs) b = front (units_after xs b) (beyond xs b)
composed (Gap xs Del g) b = front (units_after xs b) (Gap [] Del (composed g (beyond xs b)))
composed (Gap xs (Keep c) g) b =
    front (units_after xs b) (Gap (inserts (beyond xs b)) (kept_then c (fate (beyond xs b))) (composed g (tail (beyond xs b))))

-- the one list of operations for two, in normal form
abbrev pub one_for : List Operation → List Operation → List Operation
one_for first second = nf (composed (counted first) (counted second))
