use Rattle.std.proofs.Common.{length}
use Rattle.session.proofs.Pages.{SpellsFront}
use Rattle.session.proofs.page.Page.push.Given as goal

-- what stands before the rest is spelled
abbrev pub invariant-loop-rest : goal.invariant-loop-rest
invariant-loop-rest g l = SpellsFront g.O.Output.contents g.O.Output.has_failed l.fn.out l.fn.self l.out l.self l.rest l.bytes

abbrev pub decreases-loop-rest : goal.decreases-loop-rest
decreases-loop-rest g l = length l.rest
