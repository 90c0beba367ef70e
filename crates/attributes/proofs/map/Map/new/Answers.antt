use Rattle.attributes.specs.Map.{same_entries_map}
use Rattle.attributes.proofs.map.Map.new.Goals as goal

pub returns : goal.returns
returns g c = same_entries_map _ _ c.new.ensures.items
