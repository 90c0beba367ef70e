use Rattle.std.proofs.Common.{sym, ap, subst, ◌∙◌, arith}
use Rattle.std.specs.Prelude.{option_map}
use Rattle.revision.specs.Moved.{IsLateIn}
use Rattle.revision.specs.Pending.{record_of}
use Rattle.revision.proofs.MovedOn.{late_here}
use Rattle.revision.proofs.past.state.State.late_edit.Goals as goal

pub returns-in-Ok : goal.returns-in-Ok
returns-in-Ok c =
    let found = record_of c.in-Some.found.now in
    let here = sym c.find.ensures ∙ ap (option_map (λ p. (p.0, record_of p.1.now))) c.in-Some.is in
    let late = late_here c.args.self.now c.name.result.now c.in-Some.document found c.in-Edit.base c.in-Edit.delta here
    (omega (arith, c.if-base-floor.false, c.floor.ensures)) (omega (arith, c.if-revision-base.false, c.revision.ensures.revision)) in
    subst (IsLateIn c.args.self.now) (sym c.in-Ok.ensures) (subst (λ since. IsLateIn c.args.self.now (record { document = c.in-Some.document; base = c.in-Edit.base; edit = c.in-Edit.delta; since = since })) (sym c.since-since.ensures.deltas) late)
