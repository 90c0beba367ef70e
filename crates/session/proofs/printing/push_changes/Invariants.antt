use Rattle.std.proofs.Common.{length}
use Rattle.serde_json.specs.Data.{object}
use Rattle.serde_json.specs.Written.{compact_text, members_text}
use Rattle.optext.specs.Printed.{printed_entries, printed_change}
use Rattle.session.proofs.Pages.{SpellsFront}
use Rattle.session.proofs.printing.push_changes.Given as goal

-- what stands before the rest is spelled
abbrev pub invariant-loop-entry : goal.invariant-loop-entry
invariant-loop-entry g l =
    SpellsFront g.O.Output.contents g.O.Output.has_failed l.fn.out l.fn.page l.out l.page
    (members_text l.later (printed_entries printed_change l.rest)) (compact_text (object (printed_entries printed_change l.entries)))

abbrev pub decreases-loop-entry : goal.decreases-loop-entry
decreases-loop-entry g l = length l.rest
