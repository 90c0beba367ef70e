use Rattle.hub.proofs.board.Board.facts.Goals as goal

pub returns-clause-bound : goal.returns-clause-bound
returns-clause-bound g c = rw (← c.self.view_is) c.facts.ensures
