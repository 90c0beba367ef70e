use Rattle.std.proofs.Common.{◌<◌, ℕ, get_or}
use Rattle.std.specs.Prelude.{Contains}
use Rattle.revision.specs.Command.{Taken}
use Rattle.turns.specs.Waiting.{StaysIn}
use Rattle.turns.proofs.exchange.Exchange.note.Given as goal

abbrev pub invariant-loop-taken : goal.invariant-loop-taken
invariant-loop-taken l = record {
  stays : StaysIn l.fn.self.queue l.self.queue;
  so_far : (k : ℕ) (d : Taken) → k < l.taken-index → (get_or l.batch k d).document < l.fn.self.queue.room → Contains l.self.queue.numbers (get_or l.batch k d).document;
}
