-- The test of a parted pair.
use Rattle.delta.specs.Gaps.{counted}
use Rattle.compose.proofs.CallerLemmas.{cuts_of_units}
use Rattle.revision.specs.Parting.{PartsTold}

pub parts_told : PartsTold
parts_told delta units = cuts_of_units units (counted delta)
