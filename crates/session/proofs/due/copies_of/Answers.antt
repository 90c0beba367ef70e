use Rattle.std.proofs.Common.{◌∙◌}
use Rattle.std.proofs.lemmas.List.{take_all}
use Rattle.session.proofs.due.copies_of.Goals as goal

pub returns : goal.returns
returns c = c.loop-delta.invariant ∙ take_all c.loop-delta.delta-index c.args.deltas.now c.loop-delta-test.false
