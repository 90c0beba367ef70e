use Rattle.std.proofs.Common.{◌∙◌, refl}
use Rattle.std.proofs.lemmas.Result.{IfOk-weaker}
use Rattle.inspection.proofs.facts.journal_text.Goals as goal

pub returns : goal.returns
returns c =
    let slots = c.in_ok-slots.ensures in
    let segment = c.in_ok-segment.ensures in
    let filled = c.in_ok-filled.ensures in
    IfOk-weaker c.format.result _ _ (λ text is. is ∙ rw (slots, segment, filled) refl) c.format.ensures.ok
