use Rattle.std.proofs.Common.{◌<◌, ◌^◌, length, subst, arith}
use Rattle.std.proofs.lemmas.Grind.{common_steps}
use Rattle.utf16.proofs.CallerLemmas.{utf8_of-units_of}
use Rattle.journal.specs.DeltaSpelling.{operation}
use Rattle.journal.proofs.batch.writing.operations.put_text_insert.Goals as goal

pub put_text32-requires : goal.put_text32-requires
put_text32-requires c = subst (λ t. length t < 2 ^ 32) (utf8_of-units_of c.args.text.now c.utf8.text) c.requires.0.short

pub returns : goal.returns
unfolding operation
returns c = rw (utf8_of-units_of c.args.text.now c.utf8.text) (grind (arith, common_steps))
