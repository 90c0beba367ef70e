use Rattle.std.proofs.Common.{rules}
use Rattle.view.proofs.Showing.{absorbs, shows_after}
use Rattle.view.proofs.shown.ShownAbsorbNews.absorb_first.Goals as goal

pub returns-clause-absorbed : goal.returns-clause-absorbed
returns-clause-absorbed g c =
    absorbs c.args.self.now.state c.absorb_all-absorbed.new.self c.args.operation.now.batch c.args.operation.now.published c.copy.result (search rules) (search rules) (search rules)

-- this copy then shows the batch too
pub invariant_of-self-2 : goal.invariant_of-self-2
invariant_of-self-2 g c =
    shows_after g.L.Life.start (record { state = c.self.inside.state; published = c.self.inside.published }) c.operation.inside.batch c.operation.inside.made.items
    c.operation.inside.before c.operation.inside.published c.self.invariant c.operation.invariant (search rules) c.absorb_all-absorbed.new.self c.copy.result (search rules) (search rules)
    (search rules)
