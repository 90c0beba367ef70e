use Rattle.std.proofs.Common.{sym, ◌∙◌}
use Rattle.revision.specs.Pending.{record_of}
use Rattle.revision.proofs.Admitting.{deleted_later}
use Rattle.revision.proofs.rule.planning.plan_existing.Goals as goal

pub plan_revival-requires-clause-later : goal.plan_revival-requires-clause-later
plan_revival-requires-clause-later c =
    deleted_later c.args.state.now.limits (record_of c.args.found.now).past c.requires.past (sym c.is_live.ensures ∙ c.if-is_live.false)
