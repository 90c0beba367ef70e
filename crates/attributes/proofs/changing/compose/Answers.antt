use Rattle.std.proofs.Common.{sym, ◌∙◌}
use Rattle.std.proofs.lemmas.Result.{IfOk-weaker}
use Rattle.attributes.proofs.Merging.{overwritten-empty, overwritten-by-empty}
use Rattle.attributes.proofs.changing.compose.Goals as goal

pub returns-then-is_empty : goal.returns-then-is_empty
returns-then-is_empty c = record {
  value =
      IfOk-weaker c.copy.result _ _ (λ both same. same ∙ sym (overwritten-empty c.args.first.now c.args.second.now (c.is_empty.ensures.0 c.if-is_empty.true))) c.copy.ensures.same;
}

pub returns-then-is_empty-2 : goal.returns-then-is_empty-2
returns-then-is_empty-2 c = record {
  value =
      IfOk-weaker c.copy-then-is_empty-2.result _ _ (λ both same. same ∙ sym (overwritten-by-empty c.args.first.now c.args.second.now (c.is_empty-2.ensures.0 c.if-is_empty-2.true))) c.copy-then-is_empty-2.ensures.same;
}
