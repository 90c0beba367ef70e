use Rattle.std.proofs.Common.{sym, ◌∙◌}
use Rattle.delta.specs.Equality.{same_operations-Decides}
use Rattle.revision.proofs.rule.taken.is_same_delta.Goals as goal

pub returns : goal.returns
returns c =
    let decides = same_operations-Decides c.args.one.now c.args.other.now in (
      λ yes. decides.0 (sym c.eq.ensures ∙ yes),
      λ same. c.eq.ensures ∙ decides.1 same,
    )
