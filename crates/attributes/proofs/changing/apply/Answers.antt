use Rattle.std.proofs.Common.{sym, ◌∙◌}
use Rattle.std.proofs.lemmas.Result.{IfOk-weaker}
use Rattle.attributes.proofs.Merging.{changed-by-empty}
use Rattle.attributes.proofs.changing.apply.Goals as goal

pub returns-then-is_empty : goal.returns-then-is_empty
returns-then-is_empty c = record {
  value =
      IfOk-weaker c.copy.result _ _ (λ after same. same ∙ sym (changed-by-empty c.args.attrs.now c.args.change.now (c.is_empty.ensures.0 c.if-is_empty.true))) c.copy.ensures.same;
}
