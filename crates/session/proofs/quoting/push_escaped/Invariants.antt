use Rattle.std.proofs.Common.{length}
use Rattle.json.specs.Print.{escape}
use Rattle.session.proofs.Pages.{SpellsFront}
use Rattle.session.proofs.quoting.push_escaped.Given as goal

-- what stands before the rest is spelled
abbrev pub invariant-loop-rest : goal.invariant-loop-rest
invariant-loop-rest g l = SpellsFront g.O.Output.contents g.O.Output.has_failed l.fn.out l.fn.page l.out l.page (escape l.rest) (escape l.text)

abbrev pub decreases-loop-rest : goal.decreases-loop-rest
decreases-loop-rest g l = length l.rest
