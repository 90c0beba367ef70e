use Rattle.std.proofs.Common.{◌<◌, ℕ, get_or}
use Rattle.std.specs.Prelude.{Contains}
use Rattle.milestone.specs.Job.{Job}
use Rattle.turns.specs.Waiting.{StaysIn}
use Rattle.turns.proofs.exchange.look_at.Given as goal

abbrev pub invariant-loop-one : goal.invariant-loop-one
invariant-loop-one l = record {
  stays : StaysIn l.fn.queue l.queue;
  so_far : (k : ℕ) (d : Job) → k < l.one-index → (get_or l.composed k d).document < l.fn.queue.room → Contains l.queue.numbers (get_or l.composed k d).document;
}
