use Rattle.std.proofs.Common.{ap, sym, ◌∙◌}
use Rattle.delta.specs.Kind.{operation_of}
use Rattle.document.proofs.Behind.{puts_behind}
use Rattle.document.proofs.appending.text_behind.Goals as goal

pub returns-in-Text-clause-text : goal.returns-in-Text-clause-text
returns-in-Text-clause-text c =
    puts_behind c.args.ops.now c.in_ok-last.last.now _ _ c.in_ok-last.ensures (sym (ap operation_of (sym c.in-Text.is) ∙ c.get.ensures))
