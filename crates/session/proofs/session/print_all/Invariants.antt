use Rattle.std.proofs.Common.{length}
use Rattle.std.specs.List.{flat_map}
use Rattle.session.specs.steps.DueText.{due_text}
use Rattle.session.proofs.Pages.{SpellsFront}
use Rattle.session.proofs.session.print_all.Given as goal

-- the lines before the rest are spelled
abbrev pub invariant-loop-due : goal.invariant-loop-due
invariant-loop-due g l =
    SpellsFront g.O.Output.contents g.O.Output.has_failed l.fn.out l.fn.page l.out l.page (flat_map due_text l.rest) (flat_map due_text l.lines)

abbrev pub decreases-loop-due : goal.decreases-loop-due
decreases-loop-due g l = length l.rest
