use Rattle.std.proofs.Common.{◌≡◌, drop}
use Rattle.std.specs.Prelude.{max}
use Rattle.world.specs.World.{last_sent}
use Rattle.world.proofs.sent.last_number.Given as goal

abbrev pub invariant-loop-one : goal.invariant-loop-one
invariant-loop-one l = max l.last (last_sent l.name l.source (drop l.one-index l.sent)) ≡ last_sent l.name l.source l.sent
