use Rattle.std.proofs.Common.{◌≡◌, true, [], refl, sym, ap, ◌∙◌, arith}
use Rattle.delta.specs.Operation.{is_insert, op_base, op_out}
use Rattle.compose.proofs.StepsBack.{out-len, insert_back, one_back}
use Rattle.compose.proofs.undoing.take_back.Goals as goal

pub put-requires : goal.put-requires
put-requires c =
    let inserts : is_insert c.args.op.now ≡ true = sym c.is_insert.ensures ∙ c.if-is_insert.true in
    let lens = out-len c.args.op.now inserts in
    record {
      base = omega (arith, ap op_base c.delete.ensures, c.len16.ensures, lens.0, c.requires.base);
      out = omega (arith, ap op_out c.delete.ensures, lens.1, c.requires.out);
    }

pub returns-then-is_insert : goal.returns-then-is_insert
returns-then-is_insert c = record {
  back =
      let inserts : is_insert c.args.op.now ≡ true = sym c.is_insert.ensures ∙ c.if-is_insert.true in
      one_back _ _ [] c.args.op.now c.delete.result _ _ refl (out-len c.args.op.now inserts).1 (insert_back c.args.op.now c.delete.result c.len16.result inserts c.len16.ensures c.delete.ensures)
      c.in_ok-put.ensures.added c.in_ok-put.ensures.base c.in_ok-put.ensures.out;
}
