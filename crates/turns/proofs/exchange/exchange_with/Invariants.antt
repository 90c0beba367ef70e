use Rattle.std.proofs.Common.{◌≡◌, ◌<◌, ℕ, length}
use Rattle.std.specs.Prelude.{Contains}
use Rattle.turns.proofs.exchange.exchange_with.Given as goal

abbrev pub invariant-loop-document : goal.invariant-loop-document
invariant-loop-document l = record {
  room : l.queue.room ≡ l.state.limits.docs;
  so_far : (k : ℕ) → k < l.document → k < length l.state.documents → Contains l.queue.numbers k;
}
