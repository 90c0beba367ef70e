use Rattle.std.proofs.Common.{sym, ap, subst, take}
use Rattle.compose.specs.Many.{applied}
use Rattle.revision.specs.Past.{StandInTurn}
use Rattle.revision.proofs.Replays.{stand-take}
use Rattle.revision.proofs.past.replaying.document_after.Goals as goal

pub loop-taken-init : goal.loop-taken-init
loop-taken-init c =
    let same = c.in_ok-document.ensures.same in
    record {
      so_far = ap (λ d. applied d (take c.args.count c.args.deltas.now)) same;
      stand = subst (λ d. StandInTurn d (take c.args.count c.args.deltas.now)) (sym same)
          (stand-take c.args.count c.args.base.now c.args.deltas.now c.requires.stand);
    }
