use Rattle.std.proofs.Common.{arith}
use Rattle.std.proofs.lemmas.Str.{is_utf8-from_IsUtf8}
use Rattle.utf16.proofs.CallerLemmas.{utf8_of-units_of}
use Rattle.revision.proofs.Texts.{IsText-units_of}
use Rattle.revision.proofs.rule.widths.text_insert_width.Goals as goal

pub returns-clause-width : goal.returns-clause-width
returns-clause-width c = rw (utf8_of-units_of c.args.text.now c.utf8.text) (omega arith)

pub returns-clause-short : goal.returns-clause-short
returns-clause-short c = λ short.
    (IsText-units_of c.args.text.now (omega arith) (is_utf8-from_IsUtf8 c.args.text.now c.utf8.text), c.attributes_width.ensures.short (omega arith))
