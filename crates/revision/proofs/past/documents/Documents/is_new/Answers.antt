use Rattle.std.proofs.Common.{ap, ◌∙◌}
use Rattle.std.specs.Prelude.{is_none}
use Rattle.revision.specs.Documents.{PreparedState}
use Rattle.revision.specs.State.{find}
use Rattle.revision.proofs.Indexed.{number-found, none_told}
use Rattle.revision.proofs.past.documents.Documents.is_new.Goals as goal

pub returns : goal.returns
returns c =
    none_told c.number.result c.is_none.result c.is_none.ensures
    ∙ ap is_none (c.number.ensures ∙ c.self.invariant.index c.args.name.now)
    ∙ number-found c.self.inside.limits.keep c.args.name.now 0 c.self.inside.documents.items
    ∙ ap (λ (p : PreparedState). is_none (find c.args.name.now 0 p.after.documents)) c.self.view_is
