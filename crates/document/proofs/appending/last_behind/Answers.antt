use Rattle.std.proofs.Common.{sym, ◌∙◌}
use Rattle.document.proofs.Behind.{second_of_two}
use Rattle.document.proofs.appending.last_behind.Goals as goal

pub returns-then-is_some : goal.returns-then-is_some
returns-then-is_some c =
    second_of_two c.plain_len.result c.args.ops.now c.index-ops-0-then-ops-eq2.result c.index-ops-1.result c.if-ops-eq2.true c.index-ops-0-then-ops-eq2.is c.index-ops-1.is
    c.plain_len.ensures (sym c.is_some.ensures ∙ c.if-is_some.true)
