use Rattle.std.proofs.Common.{subst, sym}
use Rattle.revision.specs.Late.{HasCommandRoom}
use Rattle.revision.specs.steps.PastView.{parts_of}
use Rattle.revision.proofs.Parts.{since_is, late_room}
use Rattle.revision.proofs.past.Past.since.Goals as goal

pub returns : goal.returns
returns c =
    let parts = parts_of c.self.inside in
    let is = since_is parts c.self.invariant c.args.self.now c.self.view_is c.args.revision c.requires.held c.requires.there _ c.as_slice.ensures.value in
    record {
      deltas = is;
      room = subst HasCommandRoom (sym is) (late_room parts c.self.invariant c.args.self.now c.self.view_is c.args.revision c.requires.held c.requires.there);
    }
