-- A delta as it is after another delta of the same document (quill-delta's README, "transform()").
use Rattle.std.specs.Prelude.{Bool, true, List, [], ◌∷◌, length, if◌then◌else◌}
use Rattle.attributes.specs.Attributes.{Changes, transformed}
use Rattle.attributes.specs.Map.{empty}
use Rattle.delta.specs.Element.{Element}
use Rattle.delta.specs.Operation.{Operation}
use Rattle.delta.specs.Gaps.{Gaps, End, Gap, Fate, Del, Keep, front, run, counted}
use Rattle.delta.specs.Normal.{nf}

-- units that the first inserts are kept, and the second's inserts of that place stand after them where the first has
-- priority, else before them
abbrev pub beside : List Element → List Element → Bool → Gaps → Gaps
beside xs ys priority g =
    if priority then run (length xs) (Keep empty) (front ys g) else front ys (run (length xs) (Keep empty) g)

-- what the second makes of a unit that the first keeps: with priority, names that the first changes are left alone
abbrev pub fate_after : Changes → Fate → Bool → Fate
fate_after c Del priority = Del
fate_after c (Keep e) priority = Keep (transformed c e priority)

-- nothing where the first deletes the unit
abbrev pub left_of : Fate → Fate → Bool → Gaps → Gaps
left_of Del e priority g = g
left_of (Keep c) e priority g = Gap [] (fate_after c e priority) g

-- the second, on the document after the first. Where the second ends first it stops there too: to units that it speaks of
-- no more it does nothing, and what the first inserts among them is kept as units after the last are.
abbrev pub after : Gaps → Gaps → Bool → Gaps
after (End xs) (End ys) priority = beside xs ys priority (End [])
after (End xs) (Gap ys e h) priority = beside xs ys priority (Gap [] e h)
after (Gap xs f g) (End ys) priority = beside xs ys priority (End [])
after (Gap xs f g) (Gap ys e h) priority = beside xs ys priority (left_of f e priority (after g h priority))

-- and as a list of operations, in normal form
abbrev pub second_past : List Operation → List Operation → Bool → List Operation
second_past first second priority = nf (after (counted first) (counted second) priority)

-- and past several in turn, each with priority
abbrev pub second_past_all : List (List Operation) → List Operation → List Operation
second_past_all [] second = second
second_past_all (first ∷ others) second = second_past_all others (second_past first second true)
