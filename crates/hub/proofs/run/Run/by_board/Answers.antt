use Rattle.std.proofs.Common.{◌≤◌, length, subst, sym, List}
use Rattle.world.specs.World.{Entry}
use Rattle.hub.specs.Runs.{IsPart, AreMadeThere}
use Rattle.hub.proofs.Placing.{part_of}
use Rattle.hub.proofs.run.Run.by_board.Goals as goal

pub invariant_of-result : goal.invariant_of-result
invariant_of-result g c =
    let board = c.args.board.now.progress in
    let bound = subst (λ n. n ≤ length board.order) c.taken.ensures.taken c.taken.ensures.bound in
    let part = part_of board.order c.args.batch board.taken c.facts.ensures.bound bound c.requires.longest.within c.requires.run in
    subst (λ n. IsPart c.args.batch n c.order.result × AreMadeThere g.L.Life.start c.order.result n c.args.batch c.args.made.items) (sym c.taken.ensures.taken)
    (subst (λ (o : List Entry). IsPart c.args.batch board.taken o × AreMadeThere g.L.Life.start o board.taken c.args.batch c.args.made.items) (sym c.order.ensures)
    (part, c.requires.made))
