use Rattle.std.proofs.Common.{arith}
use Rattle.turns.proofs.CallerLemmas.{at_kept}
use Rattle.test_hostile.proofs.turning.send.Goals as goal

pub turn-requires : goal.turn-requires
turn-requires g c = (omega arith, at_kept c.args.writer.now c.args.flusher.now c.put_due.new.flusher c.put_due.ensures c.requires.at)
