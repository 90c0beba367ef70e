use Rattle.std.proofs.Common.{Some, None, sym, ap, ◌∙◌}
use Rattle.std.specs.Str.{is_utf8}
use Rattle.std.proofs.lemmas.Bool.{cond-true, cond-false, false_from_ne_true}
use Rattle.std.proofs.lemmas.Str.{IsUtf8-from_is_utf8, is_utf8-from_IsUtf8}
use Rattle.journal.specs.steps.Reading.{utf8_at}
use Rattle.journal.proofs.batch.reading.utf8.Goals as goal

pub returns-in-Ok-clause-read : goal.returns-in-Ok-clause-read
unfolding utf8_at
returns-in-Ok-clause-read c =
    let bytes = c.args.bytes.now in
    cond-true (is_utf8 bytes) (Some bytes) None (is_utf8-from_IsUtf8 bytes c.in-Ok.ensures.cases.1) ∙ ap (λ text. Some text) (sym c.in-Ok.ensures.cases.0)

pub returns-in-Err-clause-read : goal.returns-in-Err-clause-read
unfolding utf8_at
returns-in-Err-clause-read c =
    let bytes = c.args.bytes.now in
    cond-false (is_utf8 bytes) (Some bytes) None (false_from_ne_true (is_utf8 bytes) (λ valid. c.in-Err.ensures.cases.0 (IsUtf8-from_is_utf8 bytes valid)))
