use Rattle.std.proofs.Common.{◌<◌, length, sym, ap, subst, arith, ◌∙◌}
use Rattle.std.proofs.lemmas.Bool.{false≢true}
use Rattle.utf16.specs.Units.{units_of}
use Rattle.document.specs.Runs.{IsApart, text_attributes}
use Rattle.document.proofs.Ended.{apart_from_text}
use Rattle.document.proofs.Letters.{length-letters, text_attributes-letters}
use Rattle.document.proofs.shared.SharedRun.joins.Goals as goal

pub returns-in-Text : goal.returns-in-Text
returns-in-Text c = λ apart.
    let us = units_of c.in-Text.field-0.now in
    let is = c.in-Text.ensures.units in
    let some : 0 < length c.args.next.now =
    omega (arith, ap length is, length-letters us c.in-Text.attrs.now, c.in-Text.ensures.counted.0, c.in-Text.ensures.counted.1) in
    let attributes = text_attributes-letters us c.in-Text.attrs.now c.args.next.now is some in
    subst (IsApart (text_attributes c.args.self.now)) (sym attributes)
    (apart_from_text (text_attributes c.args.self.now) c.in-Text.attrs.now (λ same. false≢true (sym apart ∙ c.takes.ensures.1 same)))
