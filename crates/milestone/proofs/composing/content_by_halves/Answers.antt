use Rattle.std.proofs.Common.{◌∙◌}
use Rattle.milestone.proofs.InTurn.{first_accepted, first_made, second_accepted, second_made}
use Rattle.milestone.proofs.composing.content_by_halves.Goals as goal

pub apply_one-requires : goal.apply_one-requires
apply_one-requires c =
    first_accepted c.args.job.now c.in_ok-document.document c.one.result.now c.args.first.now c.facts.ensures.job c.in_ok-document.ensures.units c.requires.0 c.one.ensures

pub apply_one-requires-2 : goal.apply_one-requires-2
apply_one-requires-2 c =
    second_accepted c.args.job.now c.apply_one.new.document c.one-2.result.now c.args.second.now c.facts.ensures.job
    (c.in_ok-apply_one.ensures.made
    ∙ first_made c.args.job.now c.in_ok-document.document c.one.result.now c.args.first.now c.facts.ensures.job c.in_ok-document.ensures.units c.requires.0 c.one.ensures)
    c.requires.1 c.one-2.ensures

pub returns : goal.returns
returns c = record {
  content =
      c.in_ok-apply_one-2.ensures.made
      ∙ second_made c.args.job.now c.apply_one.new.document c.one-2.result.now c.args.second.now c.facts.ensures.job
      (c.in_ok-apply_one.ensures.made
      ∙ first_made c.args.job.now c.in_ok-document.document c.one.result.now c.args.first.now c.facts.ensures.job c.in_ok-document.ensures.units c.requires.0 c.one.ensures)
      c.requires.1 c.one-2.ensures;
}
