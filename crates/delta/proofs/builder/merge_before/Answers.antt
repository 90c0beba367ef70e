use Rattle.std.proofs.Common.{◌-◌, ◌+◌, ◌<◌, ◌≤◌, length, get_or, ap, arith}
use Rattle.delta.specs.Operation.{op_len, base_of, out_of}
use Rattle.delta.proofs.Places.{op_len-le, op_len-room, merge-at}
use Rattle.delta.proofs.builder.merge_before.Goals as goal

pub merge-requires : goal.merge-requires
merge-requires c =
    let within : c.args.at - 1 < length c.args.ops.now.items = omega (arith, c.args.ops.now.ok.0) in
    let le : op_len (get_or c.args.ops.now.items (c.args.at - 1) c.index_mut.result.now) ≤ base_of c.args.ops.now.items + out_of c.args.ops.now.items = op_len-le _ _ c.index_mut.result.now within in
    omega (arith, ap op_len c.index_mut.ensures.value, op_len-room c.args.op.now (base_of c.args.ops.now.items) (out_of c.args.ops.now.items) c.requires.base c.requires.out)

pub returns-clause-ok : goal.returns-clause-ok
returns-clause-ok c =
    merge-at c.in_ok-merged.merged c.args.ops.now.items c.args.at c.args.op.now c.index_mut.result.now c.merge.new.self (omega arith) (omega (arith, c.args.ops.now.ok.0)) c.index_mut.ensures.value c.in_ok-merged.ensures.ok
