use Rattle.published.proofs.Beginnings.{same_by}
use Rattle.published.proofs.prefix.PublishedPrefix.is_same.Goals as goal

pub returns : goal.returns
returns g c =
    let mine = c.self.inside in
    let theirs = c.other.inside in
    let met = c.meets.ensures in
    rw (← c.self.view_is, ← c.other.view_is)
    (same_by mine.log.items theirs.log.items met.0 mine.batches theirs.batches c.self.invariant.1 c.other.invariant.1 met.1 met.2)
