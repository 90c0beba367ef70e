use Rattle.std.proofs.Common.{length, ap, subst, ◌∙◌}
use Rattle.attributes.specs.Attributes.{reverted}
use Rattle.delta.specs.Operation.{Operation}
use Rattle.document.specs.Pieces.{piece_units}
use Rattle.compose.specs.steps.SteppingBack.{for_units, TakesBack}
use Rattle.compose.proofs.StepsBack.{changed_back, deleted_back}
use Rattle.compose.proofs.undoing.back_of.Goals as goal

pub returns-in_ok-back-in-Retain : goal.returns-in_ok-back-in-Retain
returns-in_ok-back-in-Retain c = record {
  back =
      let units = piece_units c.args.piece in
      let change = c.in-Retain.change.now in
      subst (λ (o : Operation). TakesBack (for_units (length units) o) units c.retain.result) c.in-Retain.ensures
      (changed_back c.args.piece change c.in_ok-back-in-Retain.back c.retain.result c.units.result c.units.ensures.units
      (c.in_ok-back-in-Retain.ensures.value ∙ ap (reverted change) c.attrs.ensures) c.retain.ensures);
}

pub returns-in_ok-back-in-Delete : goal.returns-in_ok-back-in-Delete
returns-in_ok-back-in-Delete c = record {
  back =
      let units = piece_units c.args.piece in
      let made = c.in_ok-back-in-Delete.back in
      subst (λ (o : Operation). TakesBack (for_units (length units) o) units made) c.in-Delete.ensures
      (deleted_back units made c.in_ok-back-in-Delete.ensures.units c.in_ok-back-in-Delete.ensures.base c.in_ok-back-in-Delete.ensures.out);
}
