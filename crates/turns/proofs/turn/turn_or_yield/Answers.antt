use Rattle.std.proofs.Common.{◌≡◌, ◌≢◌, sym, subst}
use Rattle.refusal.specs.declared.Refusal.TheVariants.{NoMemory, Fault}
use Rattle.recovery.specs.Open.{has_failed}
use Rattle.flusher.specs.Holding.{store_of}
use Rattle.turns.specs.Writing.{IsTurnFailed}
use Rattle.turns.proofs.Writing.{works_refused, works_after, fails_ok, fails_same, memory_not_fault}
use Rattle.turns.proofs.turn.turn_or_yield.Goals as goal
use Rattle.turns.proofs.turn.turn_or_yield.Goals.{in-Err+in_default-into_failed, in_default+in-Ok+in-Settled-1, in_default+in-Ok+in-Nothing-1, in_default+in-Err-1}

-- the turn failed the board
pub returns-in-Some-clause-fails : goal.returns-in-Some-clause-fails
returns-in-Some-clause-fails g c =
    let old = has_failed (store_of c.args.flusher.now) in
    let new = has_failed (store_of c.flush_turn.new.flusher) in
    fails_same c.in-Some.failed c.in-Err.stop old new c.in-Some.ensures.some.0 c.in-Err.ensures.turn.fails

pub returns-in-Some-clause-causes : goal.returns-in-Some-clause-causes
returns-in-Some-clause-causes g c no_fault =
    let e = c.in-Some.ensures.some in
    subst (λ r. r ≢ NoMemory → r ≢ Fault → IsTurnFailed c.args.flusher.now r c.flush_turn.new.flusher) (sym e.0) c.in-Err.ensures.turn.causes e.1 no_fault

-- memory ran out, or it was made
pub returns-clause-fails : goal.returns-clause-fails
returns-clause-fails g c =
    let old = has_failed (store_of c.args.flusher.now) in
    let new = has_failed (store_of c.flush_turn.new.flusher) in
    elim c.match-flush_turn.branch [
      | in-Err+in_default-into_failed w ↦
          let memory : w.in-Err.stop ≡ NoMemory = w.in_default-into_failed.ensures.none in
          fails_ok tt old new (works_refused w.in-Err.stop old new w.in-Err.ensures.turn.fails (memory_not_fault w.in-Err.stop memory))
      | in_default+in-Ok+in-Settled-1 w ↦ fails_ok tt old new (works_after w.in_default.field-0 old new w.in_default.ensures.turn.fails)
      | in_default+in-Ok+in-Nothing-1 w ↦ fails_ok tt old new (works_after w.in_default.field-0 old new w.in_default.ensures.turn.fails)
      | in_default+in-Err-1 w ↦ fails_ok tt old new (works_after w.in_default.field-0 old new w.in_default.ensures.turn.fails)
    ]
