use Rattle.attributes.proofs.Prefixes.{with_entries-all}
use Rattle.attributes.proofs.laws.entries_make_map.Goals as goal

pub returns : goal.returns
returns c = record { of_attributes = with_entries-all; of_changes = with_entries-all }
