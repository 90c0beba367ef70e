use Rattle.std.proofs.Common.{◌≡◌, ℕ, ◌+◌, [], ◌∷◌, ◌++◌, length, take, inl, inr, refl, sym, ◌∙◌, ap, subst, arith, length-append}
use Rattle.std.proofs.lemmas.Result.{err_from_is_err_and}
use Rattle.flusher.specs.Flushers.{cap_of}
use Rattle.flusher.specs.Holding.{store_of}
use Rattle.flusher.specs.Standing.{standing}
use Rattle.lives.specs.Driving.{between, Answered, Stops}
use Rattle.lives.proofs.Running.{run_none, run_on}
use Rattle.lives.proofs.Answering.{begins_at, one_more, stops_there, handed_on, unanswered_settled, call_behind}
use Rattle.lives.proofs.driving.drive_all.Goals as goal

pub loop-call-init : goal.loop-call-init
loop-call-init g c = record {
  calm = c.requires.calm;
  works = c.requires.works;
  failed = refl;
  goes = run_none g.L.Life.start (standing c.args.board.now c.args.flusher.now) c.requires.calm;
  counts = refl;
  count = ap length c.requires.nothing.0;
  answered = begins_at (cap_of g.L.Life.start) c.args.board.now (store_of c.args.flusher.now) c.args.answers.now.items c.args.tickets.now.items c.requires.nothing.0 c.requires.nothing.1;
}

pub returns-in_err-answer-clause-goes : goal.returns-in_err-answer-clause-goes
returns-in_err-answer-clause-goes g c =
    let i = c.loop-call.invariant in
    run_on g.L.Life.start (standing c.args.board.now c.args.flusher.now) (standing c.loop-call.board c.loop-call.flusher) (standing c.call_one.new.board c.call_one.new.flusher)
    i.goes i.calm i.works c.call_one.ensures.goes

pub returns-in_err-answer-clause-stops : goal.returns-in_err-answer-clause-stops
returns-in_err-answer-clause-stops g c =
    let i = c.loop-call.invariant in
    let cap : ℕ = cap_of g.L.Life.start in
    let first = between c.args.board.now [] c.args.flusher.now in
    let last = between c.loop-call.board c.loop-call.tickets.items c.loop-call.flusher in
    let answered =
    subst (λ l. Answered cap first (take (length l) c.args.calls.now) l last) (sym c.in_ok-reserve.ensures.items)
    (subst (λ n. Answered cap first (take n c.args.calls.now) c.loop-call.answers.items last) (sym i.count) i.answered) in
    let p = err_from_is_err_and c.from_residual-in_err-answer.result c.from_residual-in_err-answer.ensures.1 in
    handed_on (λ r. Stops cap first c.args.calls.now c.reserve.new.self.items r c.call_one.new.flusher) c.from_residual-in_err-answer.result p.0 c.in_err-answer.field-0.0 p.1 p.2
    (stops_there cap first last c.args.calls.now c.loop-call.call-index c.reserve.new.self.items c.call-item.result _ c.in_err-answer.field-0.0 c.call_one.new.flusher c.loop-call-test.true c.call-item.is
    (ap length c.in_ok-reserve.ensures.items ∙ i.count) answered c.in_err-answer.ensures.stops)

pub loop-call-preserved : goal.loop-call-preserved
loop-call-preserved g c =
    let i = c.loop-call.invariant in
    let items : c.push.new.self.items ≡ c.loop-call.answers.items ++ c.in_ok-answer.answer ∷ [] =
    c.in_ok-push.ensures.items ∙ ap (λ l. l ++ c.in_ok-answer.answer ∷ []) c.in_ok-reserve.ensures.items in
    record {
      calm = c.in_ok-answer.ensures.calm;
      works = c.in_ok-answer.ensures.works;
      failed = c.call_one.ensures.failed ∙ i.failed;
      goes =
          run_on g.L.Life.start (standing c.args.board.now c.args.flusher.now) (standing c.loop-call.board c.loop-call.flusher) (standing c.call_one.new.board c.call_one.new.flusher)
          i.goes i.calm i.works c.call_one.ensures.goes;
      counts = omega (arith, i.counts, c.call_one.ensures.counts);
      count = omega (arith, ap length items, length-append c.loop-call.answers.items (c.in_ok-answer.answer ∷ []), i.count);
      answered =
          subst (λ l. Answered (cap_of g.L.Life.start) (between c.args.board.now [] c.args.flusher.now) (take (c.loop-call.call-index + 1) c.args.calls.now) l
          (between c.call_one.new.board c.call_one.new.tickets.items c.call_one.new.flusher)) (sym items)
          (one_more (cap_of g.L.Life.start) (between c.args.board.now [] c.args.flusher.now) c.args.calls.now c.loop-call.call-index c.call-item.result c.loop-call.answers.items
          (between c.loop-call.board c.loop-call.tickets.items c.loop-call.flusher) c.in_ok-answer.answer (between c.call_one.new.board c.call_one.new.tickets.items c.call_one.new.flusher) _
          c.loop-call-test.true c.call-item.is i.answered c.in_ok-answer.ensures.gives c.in_ok-answer.ensures.works (c.call_one.ensures.goes.goes.opens c.in_ok-answer.ensures.works));
    }

pub returns-in_err-answer-clause-answered : goal.returns-in_err-answer-clause-answered
returns-in_err-answer-clause-answered g c =
    let i = c.loop-call.invariant in
    let cap : ℕ = cap_of g.L.Life.start in
    let first = between c.args.board.now [] c.args.flusher.now in
    let last = between c.loop-call.board c.loop-call.tickets.items c.loop-call.flusher in
    record {
      last = last;
      answered =
          subst (λ l. Answered cap first (take (length l) c.args.calls.now) l last) (sym c.in_ok-reserve.ensures.items)
          (subst (λ n. Answered cap first (take n c.args.calls.now) c.loop-call.answers.items last) (sym i.count) i.answered);
      tickets = c.in_err-answer.ensures.same;
      order = c.in_err-answer.ensures.order;
      settled = unanswered_settled cap last (between c.call_one.new.board c.call_one.new.tickets.items c.call_one.new.flusher) c.call-item.result c.in_err-answer.ensures.left;
      behind = inr (
        c.call-item.result,
        call_behind c.args.calls.now c.loop-call.call-index c.reserve.new.self.items c.call-item.result _ c.loop-call-test.true c.call-item.is
            (ap length c.in_ok-reserve.ensures.items ∙ i.count),
        c.in_err-answer.ensures.left,
      );
    }

pub returns-in_err-reserve-clause-answered : goal.returns-in_err-reserve-clause-answered
returns-in_err-reserve-clause-answered g c =
    let i = c.loop-call.invariant in
    let cap : ℕ = cap_of g.L.Life.start in
    let first = between c.args.board.now [] c.args.flusher.now in
    let last = between c.loop-call.board c.loop-call.tickets.items c.loop-call.flusher in
    record {
      last = last;
      answered =
          subst (λ l. Answered cap first (take (length l) c.args.calls.now) l last) (sym c.in_err-reserve.ensures.items)
          (subst (λ n. Answered cap first (take n c.args.calls.now) c.loop-call.answers.items last) (sym i.count) i.answered);
      tickets = refl;
      order = refl;
      settled = refl;
      behind = inl refl;
    }

pub returns-clause-answered : goal.returns-clause-answered
returns-clause-answered g c =
    let i = c.loop-call.invariant in
    let cap : ℕ = cap_of g.L.Life.start in
    let first = between c.args.board.now [] c.args.flusher.now in
    let last = between c.loop-call.board c.loop-call.tickets.items c.loop-call.flusher in
    record {
      last = last;
      answered = subst (λ n. Answered cap first (take n c.args.calls.now) c.loop-call.answers.items last) (sym i.count) i.answered;
      tickets = refl;
      order = refl;
      settled = refl;
      behind = inl refl;
    }
