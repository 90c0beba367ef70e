use Rattle.std.proofs.Common.{arith}
use Rattle.std.proofs.lemmas.Str.{is_utf8-from_IsUtf8}
use Rattle.revision.proofs.rule.widths.text_value_width.Goals as goal

pub returns-clause-short : goal.returns-clause-short
returns-clause-short c = λ short. (omega arith, is_utf8-from_IsUtf8 c.args.text.now c.utf8.text)
