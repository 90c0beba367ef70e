use Rattle.std.proofs.Common.{◌≡◌, ◌∙◌, ap}
use Rattle.attributes.specs.Map.{empty}
use Rattle.delta.specs.Operation.{retain}
use Rattle.compose.proofs.StepsBack.{plain_back, one_back}
use Rattle.compose.proofs.undoing.keep.Goals as goal

pub returns : goal.returns
returns c = record {
  back =
      let passed = c.in-Ok.ensures.passed in
      let made : c.retain.result ≡ retain c.args.len empty = c.retain.ensures ∙ ap (retain c.args.len) c.new.ensures in
      one_back _ _ passed.taken (retain c.args.len empty) c.retain.result _ _ passed.parts passed.count (plain_back passed.taken c.retain.result c.args.len passed.count made)
      c.in_ok-put-in-Ok.ensures.added c.in_ok-put-in-Ok.ensures.base c.in_ok-put-in-Ok.ensures.out;
}
