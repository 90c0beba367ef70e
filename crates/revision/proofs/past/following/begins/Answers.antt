use Rattle.std.proofs.Common.{◌≡◌, true, [], sym, ap, ap₂, ◌∙◌}
use Rattle.revision.specs.Command.{edits}
use Rattle.std.specs.Prelude.{◌&&◌}
use Rattle.attributes.specs.Map.{empty}
use Rattle.revision.specs.Past.{empty_past}
use Rattle.revision.specs.Sources.{Sources}
use Rattle.revision.specs.State.{comes_next, keeps}
use Rattle.revision.specs.Pending.{PendingDocument}
use Rattle.revision.proofs.Following.{follows_prepared, follows-empty, suits-edits}
use Rattle.revision.proofs.past.following.begins.Goals as goal

pub returns : goal.returns
returns c =
    let limits = c.args.limits in
    let taken = c.args.taken.now in
    let d : PendingDocument = record { name = []; past = record { past = empty_past; next = [] } } in
    let edit : edits taken.step ≡ true = ap edits (sym c.step.ensures.step) ∙ (sym c.edits.ensures ∙ c.if-not-edits.false) in
    c.is_some.ensures ∙ c.follows_at.ensures
    ∙ ap₂ (λ u (s : Sources). comes_next limits 0 s taken && keeps limits u s taken) c.empty-document.ensures c.new-sources.ensures
    ∙ ap (λ b. b && comes_next limits 0 empty taken && keeps limits [] empty taken) (sym (suits-edits taken.step edit))
    ∙ sym (follows_prepared limits d taken) ∙ follows-empty limits [] taken c.requires edit
