use Rattle.std.proofs.Common.{List, ◌∙◌, subst}
use Rattle.delta.specs.Operation.{Operation}
use Rattle.milestone.specs.Halves.{ComposesPart}
use Rattle.milestone.proofs.InTurn.{all_accepted, all_made}
use Rattle.milestone.proofs.composing.content_of.Goals as goal

pub apply_one-requires : goal.apply_one-requires
apply_one-requires c =
    all_accepted c.args.job.now c.in_ok-document.document c.in_ok-one.one c.deltas.ensures.job c.in_ok-document.ensures.units
    (subst (λ (l : List (List Operation)). ComposesPart c.in_ok-one.one l) c.deltas.ensures.deltas c.in_ok-one.ensures.composes)

pub returns : goal.returns
returns c = record {
  content =
      c.in_ok-apply_one.ensures.made
      ∙ all_made c.args.job.now c.in_ok-document.document c.in_ok-one.one c.deltas.ensures.job c.in_ok-document.ensures.units
      (subst (λ (l : List (List Operation)). ComposesPart c.in_ok-one.one l) c.deltas.ensures.deltas c.in_ok-one.ensures.composes);
}
