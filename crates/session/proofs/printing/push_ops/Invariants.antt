use Rattle.std.proofs.Common.{length, map}
use Rattle.serde_json.specs.Data.{array}
use Rattle.serde_json.specs.View.{items_of}
use Rattle.serde_json.specs.Written.{compact_text, items_text}
use Rattle.optext.specs.Printed.{printed_operation}
use Rattle.session.proofs.Pages.{SpellsFront}
use Rattle.session.proofs.printing.push_ops.Given as goal

-- what stands before the rest is spelled
abbrev pub invariant-loop-op : goal.invariant-loop-op
invariant-loop-op g l =
    SpellsFront g.O.Output.contents g.O.Output.has_failed l.fn.out l.fn.page l.out l.page
    (items_text l.later (items_of (map printed_operation l.rest))) (compact_text (array (items_of (map printed_operation l.ops))))

abbrev pub decreases-loop-op : goal.decreases-loop-op
decreases-loop-op g l = length l.rest
