use Rattle.std.proofs.Common.{ap, arith}
use Rattle.revision.specs.Past.{prepared_revision}
use Rattle.revision.specs.steps.PastView.{parts_of}
use Rattle.revision.proofs.Parts.{prepared-revision}
use Rattle.revision.proofs.past.Past.prepared_revision.Goals as goal

pub returns : goal.returns
returns c =
    let parts = parts_of c.self.inside in
    let same = ap prepared_revision c.self.view_is in
    record {
      revision = omega (arith, same, prepared-revision parts c.self.invariant, c.len.ensures);
      bound = omega (arith, same, prepared-revision parts c.self.invariant, c.self.invariant.revision);
    }
