use Rattle.std.proofs.Common.{refl, arith}
use Rattle.turns.proofs.CallerLemmas.{at_begun}
use Rattle.test_hostile.proofs.turning.lived.Goals as goal

pub send_steps-done-requires : goal.send_steps-done-requires
send_steps-done-requires g c =
    let at = at_begun _ _ _ c.in-Ok.both.0 c.in-Ok.both.1 c.in-Ok.both.1 c.new-hub.result.1 c.in-Ok.ensures.begun refl c.new-hub.ensures.writer in
    (omega arith, (c.requires.every, at))
