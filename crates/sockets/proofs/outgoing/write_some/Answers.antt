use Rattle.std.proofs.Common.{◌≡◌, true, subst, arith}
use Rattle.sockets.specs.Ends.{newest_waited}
use Rattle.sockets.specs.Host.{writes_of}
use Rattle.sockets.proofs.outgoing.write_some.Goals as goal

pub returns-clause-why : goal.returns-clause-why
returns-clause-why c =
    let all : c.loop.counter ≡ 50 = omega (arith, c.loop.auto.counter-end, c.loop-test.false) in
    subst (λ n. newest_waited n (writes_of c.loop.writer) ≡ true) all c.loop.invariant.waits
