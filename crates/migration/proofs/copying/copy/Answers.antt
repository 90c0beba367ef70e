use Rattle.std.proofs.Common.{◌≡◌, ◌∙◌, inl, inr, ℕ, List, refl, sym, ap, subst}
use Rattle.std.proofs.lemmas.Result.{on_ok_weaker}
use Rattle.refusal.specs.declared.Refusal.TheVariants.{OldFormat}
use Rattle.disk.specs.Crash.{MayLeaveNow}
use Rattle.history.specs.declared.pick.Pick.TheVariants.{Newer}
use Rattle.milestone.specs.declared.format.Format.TheVariants.{One, Two}
use Rattle.revision.specs.State.{State}
use Rattle.revision.specs.Agree.{Agree}
use Rattle.revision.proofs.CallerLemmas.{agrees}
use Rattle.recovery.specs.Found.{Found, FoundAs}
use Rattle.migration.specs.Brought.{IsCopiedFrom}
use Rattle.migration.specs.Copied.{StandsFor}
use Rattle.migration.proofs.Copies.{as_agreeing}
use Rattle.migration.proofs.Moments.{spares_as, untouched}
use Rattle.migration.proofs.Refused.{refused_by_old, refused_by_new}
use Rattle.migration.proofs.Rooms.{by_limits, by_shape}
use Rattle.migration.proofs.copying.copy.Goals as goal

-- what is held agrees with whatever the old content represents
held_agrees : (content : List ℕ) (held state : State) → ((s : State) → Found content Newer s → s ≡ held) → ((s : State) → FoundAs content s → Agree held s)
    → StandsFor content state → Agree held state
held_agrees content held state only runs (inl found) = subst (λ (s : State). Agree held s) (sym (only state found)) (agrees held)
held_agrees content held state only runs (inr found) = runs state found

read_agrees : (content : List ℕ) (held read state : State) → read ≡ held → ((s : State) → Found content Newer s → s ≡ held) → ((s : State) → FoundAs content s → Agree held s)
    → StandsFor content state → Agree read state
read_agrees content held read state same only runs stands = subst (λ (s : State). Agree s state) (sym same) (held_agrees content held state only runs stands)

pub returns-in-Ok-clause-brought : goal.returns-in-Ok-clause-brought
returns-in-Ok-clause-brought g c =
    on_ok_weaker c.begin_with-made.result (λ made. record {
      found = λ honest. (c.in-Ok.store.state, c.in-Ok.ensures.opened.found (subst g.A.Disk.honest c.close.ensures honest));
      kept = λ content left. c.in-Ok.ensures.device.kept content (subst (λ d. MayLeaveNow g.A.Disk d content) c.close.ensures left);
      made = record {
        is = λ honest state stands.
            let here = subst g.A.Disk.honest c.close.ensures honest in
            as_agreeing c.args.shape c.state.result.now state (g.B.Disk.seen c.begin_with-made.new.disk)
            (read_agrees (g.A.Disk.seen c.args.old) c.in-Ok.store.state c.state.result.now state c.state.ensures (c.in-Ok.ensures.opened.only_state here)
            (λ (s : State) (is : FoundAs (g.A.Disk.seen c.args.old) s). (c.in-Ok.ensures.opened.runs_on here s is).1) stands) made.is;
        synced = made.synced;
        had_none = made.had_none;
      };
    }) c.begin_with-made.ensures.made

pub returns-in-Ok-clause-suits : goal.returns-in-Ok-clause-suits
returns-in-Ok-clause-suits g c =
    on_ok_weaker c.begin_with-made.result (λ parts honest state is.
    let here = subst g.A.Disk.honest c.close.ensures honest in
    let limits = ap (λ (s : State). s.limits) (c.state.ensures ∙ sym (c.in-Ok.ensures.opened.only_state here state is)) ∙ is.stand.same_limits in
    record {
      fits = parts.0;
      room = by_shape c.state.result.now.limits is.shape c.args.shape is.holds.laid_out.names.in_range limits parts.1;
    })
    c.begin_with-made.ensures.suits

pub returns-in-Ok-clause-any_moment : goal.returns-in-Ok-clause-any_moment
returns-in-Ok-clause-any_moment g c =
    spares_as (λ content is honest state stands.
    let here = subst g.A.Disk.honest c.close.ensures honest in
    as_agreeing c.args.shape c.state.result.now state content
    (read_agrees (g.A.Disk.seen c.args.old) c.in-Ok.store.state c.state.result.now state c.state.ensures (c.in-Ok.ensures.opened.only_state here)
    (λ (s : State) (is : FoundAs (g.A.Disk.seen c.args.old) s). (c.in-Ok.ensures.opened.runs_on here s is).1) stands) is)
    c.begin_with-made.ensures.any_moment

pub returns-in-Ok-clause-refused : goal.returns-in-Ok-clause-refused
returns-in-Ok-clause-refused g c =
    let begun = c.begin_with-made in
    refused_by_new g.A.Disk g.B.Disk Two One OldFormat (inl refl) _ c.args.old c.close.result begun.result _ c.args.new.now begun.new.disk
    (λ honest. (c.in-Ok.store.state, c.in-Ok.ensures.opened.found (subst g.A.Disk.honest c.close.ensures honest)))
    (λ unfit honest state is suits.
    let here = subst g.A.Disk.honest c.close.ensures honest in
    let limits = ap (λ (s : State). s.limits) (c.state.ensures ∙ sym (c.in-Ok.ensures.opened.only_state here state is)) ∙ is.stand.same_limits in
    unfit suits.fits (by_limits c.state.result.now.limits is.shape c.args.shape is.holds.laid_out.names.in_range limits suits.room))
    begun.ensures.refused begun.ensures.only begun.ensures.faults

-- nothing was done to the new device
pub returns-in-Err-clause-any_moment : goal.returns-in-Err-clause-any_moment
returns-in-Err-clause-any_moment g c = untouched g.B.Disk (IsCopiedFrom g.A.Disk c.args.shape c.args.old c.in-Err.field-0.disk) c.args.new.now

pub returns-in-Err-clause-refused : goal.returns-in-Err-clause-refused
returns-in-Err-clause-refused g c =
    let refused = c.in-Err.ensures.refused in
    refused_by_old g.A.Disk g.B.Disk Two One OldFormat (inl refl) _ c.args.old c.in-Err.field-0.disk c.in-Err.field-0.refusal c.args.new.now refused.only
    (record { not_formatted = refused.not_formatted; other_format = refused.old_format; damaged = refused.damaged }) refused.fault
