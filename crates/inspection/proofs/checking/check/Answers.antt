use Rattle.std.proofs.Common.{◌∙◌, ◌-◌, ◌^◌, min, Bool, Ok, List, ℕ, length, sym, ap, subst, rules}
use Rattle.std.proofs.lemmas.List.{length-map}
use Rattle.std.proofs.lemmas.Result.{err_from_is_err_and}
use Rattle.history.specs.declared.pick.Pick.TheVariants.{Older}
use Rattle.revision.specs.Pending.{record_of}
use Rattle.revision.specs.State.{DocumentRecord, State}
use Rattle.recovery.specs.Found.{Found, FoundAs}
use Rattle.recovery.specs.Layout.{IsFormatted, IsOldFormat}
use Rattle.inspection.specs.Matching.{Match, changes_in}
use Rattle.inspection.proofs.Agreeing.{ran_match}
use Rattle.inspection.proofs.Memory.{check_memory}
use Rattle.inspection.proofs.checking.check.Goals as goal

pub returns-in-Ok-true-clause-sound : goal.returns-in-Ok-true-clause-sound
returns-in-Ok-true-clause-sound g c = record {
  sound = search rules;
  documents = λ honest state found.
      let one = c.in_ok-disk.ensures.only_state (c.in_ok-disk-2.ensures.device.honest honest) state found in
      sym (length-map c.documents.result.now record_of) ∙ ap (λ (l : List DocumentRecord). length l) c.documents.ensures.documents
      ∙ sym (ap (λ (s : State). length s.documents) one);
  changes = λ honest state found.
      let one = c.in_ok-disk.ensures.only_state (c.in_ok-disk-2.ensures.device.honest honest) state found in
      c.changes_in.ensures ∙ sym (ap (λ (s : State). min (changes_in s.documents) (2 ^ 64 - 1)) one);
}

pub returns-in-Ok-false-clause-refused : goal.returns-in-Ok-false-clause-refused
returns-in-Ok-false-clause-refused g c = record {
  damaged = λ is honest sound.
      let one = c.in_ok-disk.ensures.only_state (c.in_ok-disk-2.ensures.device.honest honest) sound.newer sound.by_newer in
      let there = subst (λ (content : List ℕ). Found content Older sound.older) (sym c.in_ok-disk.ensures.device.seen) sound.by_older in
      let other = c.in_ok-disk-2.ensures.only_state honest sound.older there in
      c.in-Ok-false.ensures.differ (ap (λ (b : Bool). Ok b) c.in-Ok-false.field-0-test)
      (subst (λ (s : State). Match s c.in_ok-disk-2.field-0.state) one (subst (λ (s : State). Match sound.newer s) other sound.alike));
  ran = λ honest state of.
      let newer = c.in_ok-disk.ensures.found (c.in_ok-disk-2.ensures.device.honest honest) in
      let older = subst (λ (content : List ℕ). Found content Older c.in_ok-disk-2.field-0.state) c.in_ok-disk.ensures.device.seen (c.in_ok-disk-2.ensures.found honest) in
      absurd (c.in-Ok-false.ensures.differ (ap (λ (b : Bool). Ok b) c.in-Ok-false.field-0-test)
      (ran_match (g.D.Disk.seen c.args.disk) state of c.in_ok-disk.field-0.state c.in_ok-disk-2.field-0.state newer older));
  not_formatted = search rules;
  old_format = search rules;
  only = search rules;
}

pub returns-clause-refused : goal.returns-clause-refused
returns-clause-refused g c = check_memory g.D.Disk _ c.args.disk _ (search rules)

pub returns-in_err-disk-clause-refused : goal.returns-in_err-disk-clause-refused
returns-in_err-disk-clause-refused g c =
    let p = err_from_is_err_and c.from_residual.result c.from_residual.ensures.1 in
    let refused = c.in_err-disk.ensures.refused in
    rw (p.1, p.2) (record {
      damaged = λ is honest sound. (refused.damaged is honest).2 sound.newer sound.by_newer;
      ran = refused.open_or;
      not_formatted = refused.not_formatted;
      old_format = refused.old_format;
      only = refused.only;
    })

pub returns-in_err-disk-2-clause-refused : goal.returns-in_err-disk-2-clause-refused
returns-in_err-disk-2-clause-refused g c =
    let p = err_from_is_err_and c.from_residual-in_err-disk-2.result c.from_residual-in_err-disk-2.ensures.1 in
    let refused = c.in_err-disk-2.ensures.refused in
    let seen = c.in_ok-disk.ensures.device.seen in
    rw (p.1, p.2) (record {
      damaged = λ is honest sound. (refused.damaged is honest).2 sound.older (subst (λ (content : List ℕ). Found content Older sound.older) (sym seen) sound.by_older);
      ran = λ honest state of. refused.open_or honest state (subst (λ (content : List ℕ). FoundAs content state) (sym seen) of);
      not_formatted = λ is honest. subst (λ (content : List ℕ). ¬ IsFormatted content) seen (refused.not_formatted is honest);
      old_format = λ is honest. subst IsOldFormat seen (refused.old_format is honest);
      only = refused.only;
    })
