use Rattle.std.proofs.Common.{arith}
use Rattle.delta.proofs.Leads.{some-from, retain-first}
use Rattle.delta.proofs.ops.lengthen_first.Goals as goal

pub returns-clause-old : goal.returns-clause-old
returns-clause-old c =
    retain-first c.lengthen.result c.args.ops.now.items c.args.len c.index_mut.result.now c.lengthen.new.self
    (omega (arith, some-from c.args.ops.now.len c.if-is_empty.ensures, c.args.ops.now.ok.0)) c.index_mut.ensures.value c.lengthen.ensures
