use Rattle.std.proofs.Common.{◌-◌, arith}
use Rattle.document.proofs.Joined.{length-one}
use Rattle.document.proofs.Ended.{merge_of_last}
use Rattle.document.proofs.runs.merge_into.Goals as goal

pub merge-requires-clause-bound : goal.merge-requires-clause-bound
merge-requires-clause-bound c =
    omega (arith, length-one c.args.runs.now.items (c.len-len.result - 1) c.index_mut.result.now (omega (arith, c.args.runs.now.ok.0)) c.index_mut.ensures.value)

pub returns-clause-ok : goal.returns-clause-ok
returns-clause-ok c =
    merge_of_last c.in_ok-merged.merged c.args.runs.now.items (c.len-len.result - 1) c.index_mut.result.now c.merge.new.self _ c.args.attrs.now
    (omega (arith, c.args.runs.now.ok.0)) c.index_mut.ensures.value c.in_ok-merged.ensures.ok
