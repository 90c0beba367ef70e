use Rattle.std.proofs.Common.{◌<◌, length, rules}
use Rattle.std.specs.VecDeque.{deque_capacity}
use Rattle.turns.proofs.Marks.{marked_fewer}
use Rattle.turns.proofs.queue.Queue.next.Goals as goal

pub invariant_of-self-then-place-len : goal.invariant_of-self-then-place-len
invariant_of-self-then-place-len c =
    let inside : c.in_ok-document.document < length c.self.inside.is_in.items = search rules in
    marked_fewer (deque_capacity c.self.inside.numbers) c.self.inside.is_in.items c.pop_front.new.self.items c.in_ok-document.document inside
    c.self.inside.numbers.items (deque_capacity c.pop_front.new.self) c.pop_front.ensures.capacity (search rules) c.self.invariant
