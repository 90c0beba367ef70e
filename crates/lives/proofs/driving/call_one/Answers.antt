use Rattle.std.proofs.Common.{◌≡◌, ◌⊎◌, ℕ, List, refl, subst}
use Rattle.std.specs.Prelude.{slice_get}
use Rattle.std.proofs.lemmas.Result.{err_from_is_err_and}
use Rattle.refusal.specs.declared.Refusal.TheVariants.{NoMemory, Fault}
use Rattle.world.specs.Progress.{Ticket}
use Rattle.lives.specs.declared.calls.Call.TheVariants.{Submit, Turn, Ack, Milestone, Retire}
use Rattle.lives.specs.declared.calls.Answer.TheVariants.{Turned, Acked}
use Rattle.hub.specs.Runs.{IsLongest, untaken}
use Rattle.recovery.specs.Found.{commands_of}
use Rattle.recovery.specs.Open.{state_of}
use Rattle.flusher.specs.Flushers.{cap_of}
use Rattle.flusher.specs.Holding.{store_of, told_of, committed_of, waiting_of}
use Rattle.flusher.specs.Standing.{standing}
use Rattle.lives.specs.Driving.{between, AckGives, IsTurnRefused}
use Rattle.lives.proofs.Running.{run_none}
use Rattle.lives.proofs.Steps.{run_submitted}
use Rattle.lives.proofs.Answering.{same_cap, submit_goes, run_store_by, gives_of, gives_one, puts, retires, on_ok, on_err, stops_turn, handed_on, unanswered_of, unsubmitted, unturned, unput, unretired}
use Rattle.lives.proofs.Refusing.{fails_not}
use Rattle.lives.proofs.driving.call_one.Goals as goal

pub returns-in_ok-submit_one-in-Submit-clause-goes : goal.returns-in_ok-submit_one-in-Submit-clause-goes
returns-in_ok-submit_one-in-Submit-clause-goes g c =
    submit_goes _ g.L.Life.start (standing c.args.board.now c.args.flusher.now) c.args.board.now c.submit_one.new.board c.in-Submit.command c.submit_one.result c.requires.calm
    c.submit_one.ensures.step c.submit_one.ensures.same refl c.submit_one.ensures.told

pub returns-in_err-submit_one-in-Submit-clause-goes : goal.returns-in_err-submit_one-in-Submit-clause-goes
returns-in_err-submit_one-in-Submit-clause-goes g c =
    submit_goes _ g.L.Life.start (standing c.args.board.now c.args.flusher.now) c.args.board.now c.submit_one.new.board c.in-Submit.command c.submit_one.result c.requires.calm
    c.submit_one.ensures.step c.submit_one.ensures.same refl c.submit_one.ensures.told

pub returns-in_ok-submit_one-in-Submit-clause-calm : goal.returns-in_ok-submit_one-in-Submit-clause-calm
returns-in_ok-submit_one-in-Submit-clause-calm g c =
    (run_submitted g.L.Life.start (standing c.args.board.now c.args.flusher.now) c.submit_one.new.board.progress c.submit_one.new.board.told c.in-Submit.command c.requires.calm
    c.in_ok-submit_one-in-Submit.ensures.step c.submit_one.ensures.told).0

pub returns-in_ok-submit_one-in-Submit-clause-gives : goal.returns-in_ok-submit_one-in-Submit-clause-gives
returns-in_ok-submit_one-in-Submit-clause-gives g c =
    gives_one (cap_of g.L.Life.start) (between c.args.board.now c.args.tickets.now.items c.args.flusher.now) c.args.call.now (Submit c.in-Submit.command) _
    (between c.submit_one.new.board c.submit_one.new.tickets.items c.args.flusher.now) c.in-Submit.is
    (c.in_ok-submit_one-in-Submit.ensures.gives (cap_of g.L.Life.start) (store_of c.args.flusher.now))

pub returns-in_err-submit_one-in-Submit-clause-fails : goal.returns-in_err-submit_one-in-Submit-clause-fails
returns-in_err-submit_one-in-Submit-clause-fails g c =
    let p = err_from_is_err_and c.from_residual.result c.from_residual.ensures.1 in
    fails_not (store_of c.args.flusher.now) c.from_residual.result c.requires.works (handed_on (λ r. r ≡ NoMemory) c.from_residual.result p.0 NoMemory p.1 p.2 refl)

pub returns-in_err-submit_one-in-Submit-clause-left : goal.returns-in_err-submit_one-in-Submit-clause-left
returns-in_err-submit_one-in-Submit-clause-left g c =
    unanswered_of (cap_of g.L.Life.start) (between c.args.board.now c.args.tickets.now.items c.args.flusher.now) c.args.call.now (Submit c.in-Submit.command) c.from_residual.result
    (between c.submit_one.new.board c.submit_one.new.tickets.items c.args.flusher.now) c.in-Submit.is
    (unsubmitted (cap_of g.L.Life.start) c.in-Submit.command c.from_residual.result c.args.board.now c.submit_one.new.board c.args.tickets.now.items c.submit_one.new.tickets.items
    (store_of c.args.flusher.now) (on_err c.from_residual.result c.in_err-submit_one-in-Submit.ensures.same))

pub returns-in_ok-count-in-Turn-clause-gives : goal.returns-in_ok-count-in-Turn-clause-gives
returns-in_ok-count-in-Turn-clause-gives g c =
    gives_one (cap_of g.L.Life.start) (between c.args.board.now c.args.tickets.now.items c.args.flusher.now) c.args.call.now Turn (Turned c.in_ok-count-in-Turn.count)
    (between c.turn.new.board c.args.tickets.now.items c.turn.new.flusher) c.in-Turn.is (
      subst (λ (n : ℕ). IsLongest n (untaken c.args.board.now.progress) c.in_ok-count-in-Turn.count)
          (same_cap g.L.Life.start (state_of (store_of c.args.flusher.now)) (commands_of (told_of c.args.flusher.now)) c.requires.calm.state) c.in_ok-count-in-Turn.ensures.run,
      c.in_ok-count-in-Turn.ensures.settled,
      refl,
      c.in_ok-count-in-Turn.ensures.state,
      c.in_ok-count-in-Turn.ensures.committed,
    )

pub returns-in-Ack-clause-goes : goal.returns-in-Ack-clause-goes
returns-in-Ack-clause-goes g c = run_none g.L.Life.start (standing c.args.board.now c.args.flusher.now) c.requires.calm

pub returns-in-Ack-clause-gives : goal.returns-in-Ack-clause-gives
returns-in-Ack-clause-gives g c =
    gives_one (cap_of g.L.Life.start) (between c.args.board.now c.args.tickets.now.items c.args.flusher.now) c.args.call.now (Ack c.in-Ack.at) (Acked c.ack_one.result)
    (between c.args.board.now c.args.tickets.now.items c.args.flusher.now) c.in-Ack.is
    (let same : c.deref.result.now ≡ c.args.tickets.now.items = cc in (refl, subst (λ (t : List Ticket). AckGives c.args.board.now (slice_get t c.in-Ack.at) c.ack_one.result) same c.ack_one.ensures))

pub returns-in-Milestone-clause-goes : goal.returns-in-Milestone-clause-goes
returns-in-Milestone-clause-goes g c =
    let e = c.put_one.ensures in
    (run_store_by g.L.Life.start (standing c.args.board.now c.args.flusher.now) (told_of c.put_one.new.flusher) (committed_of c.put_one.new.flusher) (waiting_of c.put_one.new.flusher)
    (store_of c.put_one.new.flusher) c.requires.calm e.keeps.kept_up.state e.keeps.kept_up.goes e.keeps.batches.told e.keeps.batches.committed e.keeps.batches.waiting).1

pub returns-in-Milestone-clause-calm : goal.returns-in-Milestone-clause-calm
returns-in-Milestone-clause-calm g c =
    let e = c.put_one.ensures in
    on_ok c.put_one.result (run_store_by g.L.Life.start (standing c.args.board.now c.args.flusher.now) (told_of c.put_one.new.flusher) (committed_of c.put_one.new.flusher) (waiting_of c.put_one.new.flusher)
    (store_of c.put_one.new.flusher) c.requires.calm e.keeps.kept_up.state e.keeps.kept_up.goes e.keeps.batches.told e.keeps.batches.committed e.keeps.batches.waiting).0

pub returns-in-Milestone-clause-gives : goal.returns-in-Milestone-clause-gives
returns-in-Milestone-clause-gives g c =
    gives_of (cap_of g.L.Life.start) (between c.args.board.now c.args.tickets.now.items c.args.flusher.now) c.args.call.now (Milestone c.in-Milestone.document c.in-Milestone.revision) c.put_one.result
    (between c.args.board.now c.args.tickets.now.items c.put_one.new.flusher) c.in-Milestone.is
    (puts (cap_of g.L.Life.start) (between c.args.board.now c.args.tickets.now.items c.args.flusher.now) c.in-Milestone.document c.in-Milestone.revision c.put_one.result (store_of c.put_one.new.flusher)
    c.put_one.ensures.answer)

pub returns-in-Retire-clause-goes : goal.returns-in-Retire-clause-goes
returns-in-Retire-clause-goes g c =
    let e = c.retire_one.ensures in
    (run_store_by g.L.Life.start (standing c.args.board.now c.args.flusher.now) (told_of c.retire_one.new.flusher) (committed_of c.retire_one.new.flusher) (waiting_of c.retire_one.new.flusher)
    (store_of c.retire_one.new.flusher) c.requires.calm e.keeps.kept_up.state e.keeps.kept_up.goes e.keeps.batches.told e.keeps.batches.committed e.keeps.batches.waiting).1

pub returns-in-Retire-clause-calm : goal.returns-in-Retire-clause-calm
returns-in-Retire-clause-calm g c =
    let e = c.retire_one.ensures in
    on_ok c.retire_one.result (run_store_by g.L.Life.start (standing c.args.board.now c.args.flusher.now) (told_of c.retire_one.new.flusher) (committed_of c.retire_one.new.flusher)
    (waiting_of c.retire_one.new.flusher) (store_of c.retire_one.new.flusher) c.requires.calm e.keeps.kept_up.state e.keeps.kept_up.goes e.keeps.batches.told e.keeps.batches.committed e.keeps.batches.waiting).0

pub returns-in-Retire-clause-gives : goal.returns-in-Retire-clause-gives
returns-in-Retire-clause-gives g c =
    gives_of (cap_of g.L.Life.start) (between c.args.board.now c.args.tickets.now.items c.args.flusher.now) c.args.call.now Retire c.retire_one.result
    (between c.args.board.now c.args.tickets.now.items c.retire_one.new.flusher) c.in-Retire.is
    (retires (cap_of g.L.Life.start) (between c.args.board.now c.args.tickets.now.items c.args.flusher.now) c.retire_one.result (store_of c.retire_one.new.flusher) c.retire_one.ensures.answer)

pub returns-in_err-count-in-Turn-clause-stops : goal.returns-in_err-count-in-Turn-clause-stops
returns-in_err-count-in-Turn-clause-stops g c =
    let store = store_of c.args.flusher.now in
    let cap : ℕ = cap_of g.L.Life.start in
    let p = err_from_is_err_and c.from_residual-in_err-count-in-Turn.result c.from_residual-in_err-count-in-Turn.ensures.1 in
    handed_on (λ r. ((r ≡ NoMemory) ⊎ (r ≡ Fault)) ⊎ ((c.args.call.now ≡ Turn) × IsTurnRefused cap c.args.board.now store r c.turn.new.flusher)) c.from_residual-in_err-count-in-Turn.result p.0 c.in_err-count-in-Turn.field-0.0 p.1 p.2
    (stops_turn (cap_of (state_of store)) cap c.args.board.now store c.args.call.now c.in_err-count-in-Turn.field-0.0 c.turn.new.flusher c.in-Turn.is
    (same_cap g.L.Life.start (state_of store) (commands_of (told_of c.args.flusher.now)) c.requires.calm.state) c.in_err-count-in-Turn.ensures.refused)

pub returns-in-Milestone-clause-fails : goal.returns-in-Milestone-clause-fails
returns-in-Milestone-clause-fails g c = c.put_one.ensures.fails

pub returns-in-Retire-clause-fails : goal.returns-in-Retire-clause-fails
returns-in-Retire-clause-fails g c = c.retire_one.ensures.fails

pub returns-in_err-count-in-Turn-clause-left : goal.returns-in_err-count-in-Turn-clause-left
returns-in_err-count-in-Turn-clause-left g c =
    unanswered_of (cap_of g.L.Life.start) (between c.args.board.now c.args.tickets.now.items c.args.flusher.now) c.args.call.now Turn c.from_residual-in_err-count-in-Turn.result
    (between c.turn.new.board c.args.tickets.now.items c.turn.new.flusher) c.in-Turn.is
    (unturned (cap_of (state_of (store_of c.args.flusher.now))) (cap_of g.L.Life.start) c.from_residual-in_err-count-in-Turn.result (between c.args.board.now c.args.tickets.now.items c.args.flusher.now)
    c.turn.new.board (store_of c.turn.new.flusher) (same_cap g.L.Life.start (state_of (store_of c.args.flusher.now)) (commands_of (told_of c.args.flusher.now)) c.requires.calm.state)
    c.in_err-count-in-Turn.ensures.left)

pub returns-in-Milestone-clause-left : goal.returns-in-Milestone-clause-left
returns-in-Milestone-clause-left g c =
    let e = c.put_one.ensures in
    unanswered_of (cap_of g.L.Life.start) (between c.args.board.now c.args.tickets.now.items c.args.flusher.now) c.args.call.now (Milestone c.in-Milestone.document c.in-Milestone.revision) c.put_one.result
    (between c.args.board.now c.args.tickets.now.items c.put_one.new.flusher) c.in-Milestone.is
    (unput (cap_of g.L.Life.start) c.in-Milestone.document c.in-Milestone.revision c.put_one.result (between c.args.board.now c.args.tickets.now.items c.args.flusher.now) (store_of c.put_one.new.flusher)
    e.only e.fails e.memory)

pub returns-in-Retire-clause-left : goal.returns-in-Retire-clause-left
returns-in-Retire-clause-left g c =
    let e = c.retire_one.ensures in
    unanswered_of (cap_of g.L.Life.start) (between c.args.board.now c.args.tickets.now.items c.args.flusher.now) c.args.call.now Retire c.retire_one.result
    (between c.args.board.now c.args.tickets.now.items c.retire_one.new.flusher) c.in-Retire.is
    (unretired (cap_of g.L.Life.start) c.retire_one.result (between c.args.board.now c.args.tickets.now.items c.args.flusher.now) (store_of c.retire_one.new.flusher) e.only e.fails)
