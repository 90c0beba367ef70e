use Rattle.std.proofs.Common.{length, map}
use Rattle.serde_json.specs.Data.{array}
use Rattle.serde_json.specs.View.{items_of}
use Rattle.serde_json.specs.Written.{compact_text, items_text}
use Rattle.session.specs.Reply.{printed_delta}
use Rattle.session.proofs.Pages.{SpellsFront}
use Rattle.session.proofs.printing.push_deltas.Given as goal

-- what stands before the rest is spelled
abbrev pub invariant-loop-delta : goal.invariant-loop-delta
invariant-loop-delta g l =
    SpellsFront g.O.Output.contents g.O.Output.has_failed l.fn.out l.fn.page l.out l.page
    (items_text l.later (items_of (map printed_delta l.rest))) (compact_text (array (items_of (map printed_delta l.deltas))))

abbrev pub decreases-loop-delta : goal.decreases-loop-delta
decreases-loop-delta g l = length l.rest
