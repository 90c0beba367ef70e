use Rattle.std.proofs.Common.{refl, sym, subst}
use Rattle.attributes.specs.Map.{same_entries_map}
use Rattle.revision.specs.steps.Counting.{Keeps}
use Rattle.revision.proofs.past.sources.Sources.new.Goals as goal

pub returns : goal.returns
returns c = same_entries_map _ _ c.new.ensures.items

pub invariant_of-result-2 : goal.invariant_of-result-2
invariant_of-result-2 c = subst (Keeps 0) (sym c.new.ensures.items) (record { named = refl; fits = refl; counted = refl })
