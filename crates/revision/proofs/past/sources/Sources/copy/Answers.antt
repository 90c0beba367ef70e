use Rattle.std.proofs.Common.{◌∙◌}
use Rattle.attributes.specs.Map.{same_entries_map}
use Rattle.revision.proofs.past.sources.Sources.copy.Goals as goal

pub returns : goal.returns
returns c = record { same = same_entries_map _ _ (c.in_ok-copy_of.ensures.same ∙ c.entries.ensures.entries) }
