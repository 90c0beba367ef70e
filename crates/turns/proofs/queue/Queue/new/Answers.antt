use Rattle.std.proofs.Common.{arith}
use Rattle.std.specs.VecDeque.{deque_capacity}
use Rattle.turns.proofs.Marks.{marked_none}
use Rattle.turns.proofs.queue.Queue.new.Goals as goal

pub invariant_of-result : goal.invariant_of-result
invariant_of-result c =
    marked_none (deque_capacity c.in_ok-numbers.numbers) c.loop.is_in.items c.in_ok-numbers.numbers.items
    (omega (arith, c.loop.invariant.many, c.loop.auto.counter-end, c.in_ok-numbers.ensures.capacity)) c.loop.invariant.unset c.in_ok-numbers.ensures.items
