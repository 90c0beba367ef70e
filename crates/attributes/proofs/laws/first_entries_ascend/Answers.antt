use Rattle.attributes.proofs.Prefixes.{sorted_prefix}
use Rattle.attributes.proofs.laws.first_entries_ascend.Goals as goal

pub returns : goal.returns
returns c = record { of_attributes = sorted_prefix; of_changes = sorted_prefix }
