use Rattle.std.proofs.Common.{◌≡◌, ◌+◌, ◌∙◌, false, ap, set}
use Rattle.std.specs.Prelude.{replicate}
use Rattle.hub.specs.Waiting.{is_covered, still_awaited}
use Rattle.hub.proofs.Waking.{made, woken_here, waits_here, all_looked_at, nobody_is_forgotten}
use Rattle.hub.proofs.waiting.covered.Goals.{then-awaited-i, else-awaited-i}
use Rattle.hub.proofs.waiting.covered.Goals as goal

pub loop-i-preserved : goal.loop-i-preserved
loop-i-preserved c = record { covered = both.0; awaited = both.1 }
  where
    both : (c.if-awaited-i.told ≡ made (is_covered c.args.settled) (c.loop-i.i + 1) c.args.awaited.now (replicate 64 false))
        × (c.if-awaited-i.awaited ≡ made (still_awaited c.args.settled) (c.loop-i.i + 1) c.args.awaited.now c.args.awaited.now)
    both = elim c.if-awaited-i.branch [
      | then-awaited-i w ↦ woken_here c.args.settled c.loop-i.i c.args.awaited.now c.loop-i.awaited c.if-awaited-i.awaited c.loop-i.told c.if-awaited-i.told
          c.told-awaited c.loop-i-test.true c.loop-i.invariant.covered c.loop-i.invariant.awaited w.if-awaited-i.true (w.awaited-is ∙ ap (set c.loop-i.awaited c.loop-i.i) w.rest.ensures) w.told-is
      | else-awaited-i w ↦ waits_here c.args.settled c.loop-i.i c.args.awaited.now c.loop-i.awaited c.if-awaited-i.awaited c.loop-i.told c.if-awaited-i.told
          c.told-awaited c.loop-i-test.true c.loop-i.invariant.covered c.loop-i.invariant.awaited w.if-awaited-i.false w.awaited-is w.told-is
    ]

pub returns-clause-nobody : goal.returns-clause-nobody
returns-clause-nobody c = nobody_is_forgotten c.args.settled c.args.awaited.now c.loop-i.awaited c.loop-i.told c.told-awaited
    (all_looked_at c.args.settled c.loop-i.i c.args.awaited.now c.loop-i.awaited c.loop-i.told c.told-awaited c.loop-i-test.false c.loop-i.invariant.covered c.loop-i.invariant.awaited)
