use Rattle.std.proofs.Common.{◌≡◌, ◌==◌, inr, false, [], ap, sym, ◌∙◌}
use Rattle.std.proofs.lemmas.Bool.{ne_eqb}
use Rattle.revision.specs.Command.{Deletes}
use Rattle.revision.specs.Acceptance.{Takes, Refuses, next_revision}
use Rattle.revision.specs.Pending.{record_of}
use Rattle.revision.specs.Planned.{takes_command}
use Rattle.revision.specs.State.{revision_of, units_of, last_of_all}
use Rattle.revision.proofs.Admitting.{deletion_answers, asked_deletion, same_next}
use Rattle.revision.proofs.rule.planning.delete_next.Goals as goal

pub returns-in-Err-clause-due : goal.returns-in-Err-clause-due
returns-in-Err-clause-due c =
    let found = record_of c.args.found.now in
    let asked = next_revision c.args.number found c.args.command.now Deletes [] in
    let fresh : (revision_of found == last_of_all) ≡ false = ne_eqb _ _ c.requires.unspent in
    inr (deletion_answers c.args.state.now c.args.command.now c.limits-limits.result c.sources.result.now c.limits-limits.ensures.limits
    c.args.number (record_of c.args.found.now) c.sources.ensures (Refuses c.in-Err.refusal) fresh
    (c.in-Err.ensures.err (units_of found) asked (asked_deletion c.args.number found c.args.command.now c.source-source.result.now c.source-source.ensures.source)))

pub returns-clause-due : goal.returns-clause-due
returns-clause-due c =
    let found = record_of c.args.found.now in
    let asked = next_revision c.args.number found c.args.command.now Deletes [] in
    let fresh : (revision_of found == last_of_all) ≡ false = ne_eqb _ _ c.requires.unspent in
    let same : asked ≡ c.deletion-taken.result =
    same_next c.args.number found c.args.command.now Deletes [] c.revision-revision.result c.number.result c.in_ok-source.source c.deletion-taken.result c.deletion-taken.ensures
    c.revision-revision.ensures.revision (c.in_ok-source.ensures.ok ∙ c.source-source.ensures.source) c.number.ensures.number in
    deletion_answers c.args.state.now c.args.command.now c.limits-limits.result c.sources.result.now c.limits-limits.ensures.limits
    c.args.number (record_of c.args.found.now) c.sources.ensures (Takes asked) fresh
    (c.in_default.ensures.ok (units_of found) asked (asked_deletion c.args.number found c.args.command.now c.source-source.result.now c.source-source.ensures.source))
    ∙ ap Takes (same ∙ sym c.placed.ensures)

pub returns-in_err-source-clause-memory : goal.returns-in_err-source-clause-memory
returns-in_err-source-clause-memory c =
    let found = record_of c.args.found.now in
    let asked = next_revision c.args.number found c.args.command.now Deletes [] in
    let fresh : (revision_of found == last_of_all) ≡ false = ne_eqb _ _ c.requires.unspent in
    λ _. ap takes_command (deletion_answers c.args.state.now c.args.command.now c.limits-limits.result c.sources.result.now c.limits-limits.ensures.limits
    c.args.number (record_of c.args.found.now) c.sources.ensures (Takes asked) fresh
    (c.in_default.ensures.ok (units_of found) asked (asked_deletion c.args.number found c.args.command.now c.source-source.result.now c.source-source.ensures.source)))
