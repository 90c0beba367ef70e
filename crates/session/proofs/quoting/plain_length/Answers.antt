use Rattle.std.proofs.Common.{rules}
use Rattle.session.proofs.OperationTexts.{plain-more}
use Rattle.session.proofs.quoting.plain_length.Goals as goal

pub loop-length-preserved : goal.loop-length-preserved
loop-length-preserved c = record {
  within = search rules;
  plain = plain-more c.args.text.now c.loop-length.length c.loop-length-test.true (c.is_escaped.ensures c.if-is_escaped.false) c.loop-length.invariant.plain;
}
