use Rattle.std.proofs.Common.{◌≡◌, ℕ, ◌+◌, ◌-◌, ◌^◌, List, inr, true, false, length, min, ap, ap₂, sym, ◌∙◌, arith}
use Rattle.std.specs.Prelude.{nat_lt, nat_le}
use Rattle.std.proofs.lemmas.Bool.{ltb-true, leb-true, false_from_ne_true}
use Rattle.std.proofs.lemmas.List.{length-map}
use Rattle.delta.specs.Operation.{Operation}
use Rattle.revision.specs.Command.{Taken, width_of}
use Rattle.revision.specs.Width.{delta_width}
use Rattle.revision.specs.Acceptance.{Takes, Refuses, creation, create_new}
use Rattle.revision.specs.State.{Limits}
use Rattle.revision.specs.Pending.{record_of}
use Rattle.revision.specs.Planned.{takes_command}
use Rattle.revision.proofs.Admitting.{new_answers, asked_new, same_new}
use Rattle.revision.proofs.rule.planning.plan_new.Goals as goal
use Rattle.revision.proofs.rule.planning.plan_new.Goals.{In_default}

pub returns-in-Err-clause-due : goal.returns-in-Err-clause-due
returns-in-Err-clause-due c =
    let state = c.args.state.now in
    let asked = creation state c.args.command.now c.args.delta.now in
    let count : length c.documents-count.result.now ≡ length state.documents = sym (length-map c.documents-count.result.now record_of) ∙ ap length c.documents-count.ensures.documents in
    let first : nat_lt 1 c.args.command.now.number ≡ false =
    false_from_ne_true _ (λ more. absurd (omega (arith, ltb-true 1 c.args.command.now.number more, c.if-number-gt1.false, c.number.ensures.number))) in
    let room : nat_le state.limits.docs (length state.documents) ≡ false =
    false_from_ne_true _ (λ full.
    absurd (omega (arith, leb-true state.limits.docs (length state.documents) full, count, c.if-count-from.false, c.from.ensures, c.docs.ensures.docs, ap (λ (l : Limits). l.docs) c.limits-limits.ensures.limits))) in
    inr (new_answers state c.args.command.now c.args.delta.now c.limits-limits.result c.empty-document.result c.new-sources.result c.limits-limits.ensures.limits
    c.empty-document.ensures c.new-sources.ensures (Refuses c.in-Err.refusal) first room
    (c.in-Err.ensures.err asked
    (asked_new state c.args.command.now c.empty-document.result c.args.delta.now c.name.result.now c.source-2.result.now c.creation_width-width.result c.name.ensures c.source-2.ensures.source
    (omega (arith, c.creation_width-width.ensures.width, ap length c.source.ensures.source, ap length c.source-2.ensures.source)))))

pub returns-clause-due : goal.returns-clause-due
returns-clause-due c =
    let state = c.args.state.now in
    let asked = creation state c.args.command.now c.args.delta.now in
    let count : length c.documents-count.result.now ≡ length state.documents = sym (length-map c.documents-count.result.now record_of) ∙ ap length c.documents-count.ensures.documents in
    let first : nat_lt 1 c.args.command.now.number ≡ false =
    false_from_ne_true _ (λ more. absurd (omega (arith, ltb-true 1 c.args.command.now.number more, c.if-number-gt1.false, c.number.ensures.number))) in
    let room : nat_le state.limits.docs (length state.documents) ≡ false =
    false_from_ne_true _ (λ full.
    absurd (omega (arith, leb-true state.limits.docs (length state.documents) full, count, c.if-count-from.false, c.from.ensures, c.docs.ensures.docs, ap (λ (l : Limits). l.docs) c.limits-limits.ensures.limits))) in
    let same : asked ≡ c.creation-taken.result =
    same_new state c.args.command.now c.args.delta.now c.in_ok-delta.delta (length c.documents-count.result.now) c.in_ok-name.name c.in_ok-source.source c.creation-taken.result c.creation-taken.ensures
    count (c.in_ok-name.ensures.ok ∙ c.name-2.ensures) (c.in_ok-source.ensures.ok ∙ c.source-3.ensures.source) c.in_ok-delta.ensures.same in
    new_answers state c.args.command.now c.args.delta.now c.limits-limits.result c.empty-document.result c.new-sources.result c.limits-limits.ensures.limits
    c.empty-document.ensures c.new-sources.ensures (Takes asked) first room
    (c.in_default.ensures.ok asked
    (asked_new state c.args.command.now c.empty-document.result c.args.delta.now c.name.result.now c.source-2.result.now c.creation_width-width.result c.name.ensures c.source-2.ensures.source
    (omega (arith, c.creation_width-width.ensures.width, ap length c.source.ensures.source, ap length c.source-2.ensures.source))))
    ∙ ap Takes (same ∙ sym c.with_width.ensures)

-- where the delta is admitted, the creation is taken
is_taken_now : (c : In_default) → takes_command (create_new c.args.state.now c.args.command.now c.args.delta.now) ≡ true
is_taken_now c =
    let state = c.args.state.now in
    let asked = creation state c.args.command.now c.args.delta.now in
    let count : length c.documents-count.result.now ≡ length state.documents = sym (length-map c.documents-count.result.now record_of) ∙ ap length c.documents-count.ensures.documents in
    let first : nat_lt 1 c.args.command.now.number ≡ false =
    false_from_ne_true _ (λ more. absurd (omega (arith, ltb-true 1 c.args.command.now.number more, c.if-number-gt1.false, c.number.ensures.number))) in
    let room : nat_le state.limits.docs (length state.documents) ≡ false =
    false_from_ne_true _ (λ full.
    absurd (omega (arith, leb-true state.limits.docs (length state.documents) full, count, c.if-count-from.false, c.from.ensures, c.docs.ensures.docs, ap (λ (l : Limits). l.docs) c.limits-limits.ensures.limits))) in
    ap takes_command (new_answers state c.args.command.now c.args.delta.now c.limits-limits.result c.empty-document.result c.new-sources.result c.limits-limits.ensures.limits
    c.empty-document.ensures c.new-sources.ensures (Takes asked) first room
    (c.in_default.ensures.ok asked
    (asked_new state c.args.command.now c.empty-document.result c.args.delta.now c.name.result.now c.source-2.result.now c.creation_width-width.result c.name.ensures c.source-2.ensures.source
    (omega (arith, c.creation_width-width.ensures.width, ap length c.source.ensures.source, ap length c.source-2.ensures.source)))))

pub returns-in_err-name-clause-memory : goal.returns-in_err-name-clause-memory
returns-in_err-name-clause-memory c = λ _. is_taken_now (goal.at.returns-in_err-name-clause-memory c).In_default

pub returns-in_err-source-clause-memory : goal.returns-in_err-source-clause-memory
returns-in_err-source-clause-memory c = λ _. is_taken_now (goal.at.returns-in_err-source-clause-memory c).In_default

pub returns-in_err-delta-clause-memory : goal.returns-in_err-delta-clause-memory
returns-in_err-delta-clause-memory c = λ _. is_taken_now (goal.at.returns-in_err-delta-clause-memory c).In_default

abbrev reckoned : Taken → ℕ
reckoned t = min (width_of t) (2 ^ 64 - 1)

pub with_width-requires : goal.with_width-requires
with_width-requires c =
    let name : c.in_ok-name.name ≡ c.name.result.now = c.in_ok-name.ensures.ok ∙ c.name-2.ensures ∙ sym c.name.ensures in
    let source : c.in_ok-source.source ≡ c.source.result.now = c.in_ok-source.ensures.ok ∙ c.source-3.ensures.source ∙ sym c.source.ensures.source in
    record {
      width = c.creation_width-width.ensures.width
          ∙ sym (ap reckoned c.creation-taken.ensures
          ∙ ap₂ (λ (n s : List ℕ). min (23 + length s + (2 + length n) + delta_width c.in_ok-delta.delta) (2 ^ 64 - 1)) name source
          ∙ ap (λ (d : List Operation). min (23 + length c.source.result.now + (2 + length c.name.result.now) + delta_width d) (2 ^ 64 - 1)) c.in_ok-delta.ensures.same);
    }
