-- Two deltas of one document at once.
use Rattle.std.specs.Prelude.{Bool, List, ◌++◌, if◌then◌else◌}
use Rattle.attributes.specs.Attributes.{Changes}
use Rattle.attributes.specs.Map.{overwritten}
use Rattle.delta.specs.Element.{Element}
use Rattle.delta.specs.Gaps.{Gaps, End, Gap, Fate, Del, Keep}

-- what two insert at one place: the first's units come first where it has priority
abbrev pub in_turn : List Element → List Element → Bool → List Element
in_turn xs ys priority = if priority then xs ++ ys else ys ++ xs

-- two changes of one unit: at a name that both have, the one with priority wins
abbrev pub changes_of_both : Changes → Changes → Bool → Changes
changes_of_both c e priority = if priority then overwritten e c else overwritten c e

-- a unit goes where either deletes it
abbrev pub fate_of_both : Fate → Fate → Bool → Fate
fate_of_both Del e priority = Del
fate_of_both (Keep c) Del priority = Del
fate_of_both (Keep c) (Keep e) priority = Keep (changes_of_both c e priority)

-- both at once, on one document. Past the last unit that one speaks of, the other's fates stand.
abbrev pub both_at_once : Gaps → Gaps → Bool → Gaps
both_at_once (End xs) (End ys) priority = End (in_turn xs ys priority)
both_at_once (End xs) (Gap ys e h) priority = Gap (in_turn xs ys priority) e h
both_at_once (Gap xs f g) (End ys) priority = Gap (in_turn xs ys priority) f g
both_at_once (Gap xs f g) (Gap ys e h) priority =
    Gap (in_turn xs ys priority) (fate_of_both f e priority) (both_at_once g h priority)
