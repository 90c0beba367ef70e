use Rattle.std.proofs.Common.{sym, ◌∙◌}
use Rattle.revision.specs.Sources.{same_sources-Decides}
use Rattle.inspection.proofs.matching.same_sources.Goals as goal

pub returns : goal.returns
returns c =
    let decides = same_sources-Decides c.args.one.now c.args.other.now in (
      λ yes. decides.0 (sym c.eq.ensures ∙ yes),
      λ same. c.eq.ensures ∙ decides.1 same,
    )
