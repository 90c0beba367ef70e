use Rattle.std.proofs.Common.{ℕ, List, drop, inr, sym, ap, subst, ◌∙◌}
use Rattle.std.specs.Prelude.{Contains}
use Rattle.flusher.specs.Holding.{store_of}
use Rattle.turns.specs.Exchanging.{IsFirstLookedAt}
use Rattle.turns.specs.Waiting.{Waiting}
use Rattle.turns.proofs.Writing.{upkeep_none}
use Rattle.turns.proofs.exchange.Exchange.hand_next.Goals as goal

pub returns-in_default-clause-upkeep : goal.returns-in_default-clause-upkeep
returns-in_default-clause-upkeep g c = upkeep_none tt c.args.flusher.now

-- a job was handed out
pub returns-in-Ok-Some-clause-looked_at : goal.returns-in-Ok-Some-clause-looked_at
returns-in-Ok-Some-clause-looked_at g c =
    let handed = rw c.in-Ok-Some.field-0-is at c.in-Ok-Some.ensures.some in
    subst (λ (l : List ℕ). IsFirstLookedAt c.args.self.now.every (store_of c.args.flusher.now) l (store_of c.job_of.new.flusher) c.send.new.self.queue.numbers)
    (sym c.in-Some.ensures.first) (inr (inr (c.in-Ok-Some.job, handed.0, handed.1)))

pub returns-in-Ok-Some-clause-stays : goal.returns-in-Ok-Some-clause-stays
returns-in-Ok-Some-clause-stays g c = record {
  room = ap (λ (q : Waiting). q.room) c.send.ensures.queue ∙ (c.in-Ok-Some.ensures.stays.room ∙ c.in-Some.ensures.room);
  wait = λ number waits.
      subst (λ (q : Waiting). Contains q.numbers number) (sym c.send.ensures.queue)
      (c.in-Ok-Some.ensures.stays.wait number (subst (λ (l : List ℕ). Contains l number) (ap (λ (l : List ℕ). drop 1 l) c.in-Some.ensures.first) waits));
}
