use Rattle.std.proofs.Common.{◌≡◌, ◌<◌, ◌≤◌, ◌⊎◌, inl, inr, ℕ, true, false, List, [], ◌∷◌, ◌++◌, length, refl, sym, ◌∙◌, ap, subst, arith, append-nil}
use Rattle.std.proofs.lemmas.Bool.{false≢true, false_from_ne_true}
use Rattle.std.proofs.lemmas.Result.{err_from_is_err_and}
use Rattle.revision.specs.Command.{Taken}
use Rattle.revision.specs.State.{fold}
use Rattle.recovery.specs.Found.{commands_of}
use Rattle.recovery.specs.Open.{state_of, has_failed}
use Rattle.world.specs.Progress.{next_run, taken_more, settled_more}
use Rattle.world.specs.World.{takens}
use Rattle.hub.specs.Legal.{Board}
use Rattle.hub.specs.Runs.{IsLongest, untaken}
use Rattle.flusher.specs.Flushers.{cap_of, IsHeldCommitted}
use Rattle.flusher.specs.Holding.{store_of, told_of, committed_of, waiting_of}
use Rattle.flusher.specs.Standing.{standing}
use Rattle.flusher.proofs.CallerLemmas.{fits_slot, same_batch}
use Rattle.lives.specs.Run.{RunGoes}
use Rattle.lives.specs.Driving.{turned, IsTurnRefused, IsUnsettled, IsRunCommitted}
use Rattle.lives.proofs.Running.{run_none}
use Rattle.lives.proofs.Steps.{run_of_none, run_refused_by, run_settled}
use Rattle.lives.proofs.Fitting.{run_fits, run_within, may_settle, goes_held, goes_next, run_committed}
use Rattle.refusal.specs.declared.Refusal.TheVariants.{NoMemory, Fault}
use Rattle.lives.proofs.Answering.{turned_by, turned_not, turn_refused, handed_on, on_err}
use Rattle.lives.proofs.turning.turn.Goals as goal

pub returns-in_err-run-clause-goes : goal.returns-in_err-run-clause-goes
returns-in_err-run-clause-goes g c =
    subst (λ (b : Board). RunGoes g.L.Life.start (standing c.args.board.now c.args.flusher.now) (standing b c.args.flusher.now)) (sym c.in_err-run.ensures.unchanged)
    (run_none g.L.Life.start (standing c.args.board.now c.args.flusher.now) c.requires.calm)

pub returns-then-count-eq0-clause-goes : goal.returns-then-count-eq0-clause-goes
returns-then-count-eq0-clause-goes g c =
    let zero : length c.in_ok-run.run'.commands ≡ 0 = omega arith in
    (run_of_none g.L.Life.start (standing c.args.board.now c.args.flusher.now) c.take.new.self.progress c.take.new.self.told c.requires.calm
    (ap (λ (b : Board). b.progress) c.in_ok-run.ensures.taken.moves ∙ ap (taken_more c.args.board.now.progress) zero) (ap (λ (b : Board). b.told) c.in_ok-run.ensures.taken.moves)).1

pub returns-then-count-eq0-clause-calm : goal.returns-then-count-eq0-clause-calm
returns-then-count-eq0-clause-calm g c =
    let zero : length c.in_ok-run.run'.commands ≡ 0 = omega arith in
    (run_of_none g.L.Life.start (standing c.args.board.now c.args.flusher.now) c.take.new.self.progress c.take.new.self.told c.requires.calm
    (ap (λ (b : Board). b.progress) c.in_ok-run.ensures.taken.moves ∙ ap (taken_more c.args.board.now.progress) zero) (ap (λ (b : Board). b.told) c.in_ok-run.ensures.taken.moves)).0

pub returns-then-count-eq0-clause-settled : goal.returns-then-count-eq0-clause-settled
returns-then-count-eq0-clause-settled g c =
    let zero : length c.in_ok-run.run'.commands ≡ 0 = omega arith in
    turned_not c.args.board.now c.take.new.self (length c.in_ok-run.run'.commands) c.in_ok-run.ensures.taken.moves zero ∙ ap (turned c.args.board.now) zero

pub hold-requires-clause-cap : goal.hold-requires-clause-cap
hold-requires-clause-cap g c = c.in_ok-run.ensures.taken.cap ∙ c.cap.ensures

pub hold-requires-clause-short : goal.hold-requires-clause-short
hold-requires-clause-short g c =
    let some : 0 < length c.in_ok-run.run'.commands = omega arith in
    let longest = subst (λ (n : ℕ). IsLongest n (untaken c.args.board.now.progress) (length c.in_ok-run.run'.commands)) c.cap.ensures c.in_ok-run.ensures.taken.longest in
    (fits_slot (state_of (store_of c.args.flusher.now)) c.in_ok-run.run'.commands
    (run_fits (state_of (store_of c.args.flusher.now)) c.args.board.now.progress c.in_ok-run.run'.commands c.in_ok-run.ensures.taken.next longest some)).0

pub hold-requires-clause-fits : goal.hold-requires-clause-fits
hold-requires-clause-fits g c =
    let some : 0 < length c.in_ok-run.run'.commands = omega arith in
    let longest = subst (λ (n : ℕ). IsLongest n (untaken c.args.board.now.progress) (length c.in_ok-run.run'.commands)) c.cap.ensures c.in_ok-run.ensures.taken.longest in
    (fits_slot (state_of (store_of c.args.flusher.now)) c.in_ok-run.run'.commands
    (run_fits (state_of (store_of c.args.flusher.now)) c.args.board.now.progress c.in_ok-run.run'.commands c.in_ok-run.ensures.taken.next longest some)).1

pub hold-requires-clause-next : goal.hold-requires-clause-next
hold-requires-clause-next g c =
    goes_next g.L.Life.start (standing c.args.board.now c.args.flusher.now) c.in_ok-run.run'.place c.requires.calm c.in_ok-run.ensures.taken.place

pub returns-in_err-write-clause-goes : goal.returns-in_err-write-clause-goes
returns-in_err-write-clause-goes g c =
    let run = c.in_ok-run.run'.commands in
    let within = run_within c.cap.result c.args.board.now.progress (length run) c.requires.calm.even.taken c.in_ok-run.ensures.taken.longest in
    let held =
    c.in_err-write.ensures.refused.held ∙ ap (λ (l : List (List Taken)). l ++ waiting_of c.hold.new.self) (c.hold.ensures.committed ∙ c.requires.calm.committed) ∙ c.hold.ensures.waiting in
    run_refused_by g.L.Life.start (standing c.args.board.now c.args.flusher.now) c.take.new.self.progress c.take.new.self.told (told_of c.write.new.self) (committed_of c.write.new.self) (waiting_of c.write.new.self)
    (store_of c.write.new.self) run c.requires.calm c.in_ok-run.ensures.taken.next within (ap (λ (b : Board). b.progress) c.in_ok-run.ensures.taken.moves) held
    (goes_held (store_of c.args.flusher.now) (store_of c.hold.new.self) (store_of c.write.new.self) (waiting_of c.hold.new.self) run c.hold.ensures.store c.hold.ensures.waiting c.write.ensures.writes.goes)
    (c.in_err-write.ensures.refused.told ∙ c.hold.ensures.told)

pub returns-in_err-settle_on-in-Some-clause-goes : goal.returns-in_err-settle_on-in-Some-clause-goes
returns-in_err-settle_on-in-Some-clause-goes g c =
    let run = c.in_ok-run.run'.commands in
    let some : 0 < length run = omega arith in
    let held = ap (λ (l : List (List Taken)). l ++ waiting_of c.hold.new.self) (c.hold.ensures.committed ∙ c.requires.calm.committed) ∙ c.hold.ensures.waiting in
    let written = (rw c.in-Some.is at c.in_ok-write.ensures.published).some in
    let same = same_batch _ c.in-Some.both.0.batch run written.batch held in
    let tells = written.token_is ∙ written.published ∙ ap (λ (l : List (List Taken)). told_of c.hold.new.self ++ l) held ∙ ap (λ (l : List (List Taken)). l ++ run ∷ []) c.hold.ensures.told in
    absurd (false≢true (c.in_err-settle_on-in-Some.ensures.settles
    (may_settle g.L.Life.start (standing c.args.board.now c.args.flusher.now) c.take.new.self.progress run c.in-Some.both.0.batch c.in-Some.both.1 c.requires.calm c.in_ok-run.ensures.taken.next
    (ap (λ (b : Board). b.progress) c.in_ok-run.ensures.taken.moves) some same tells)))

pub returns-in_ok-settle_on-in-Some-clause-goes : goal.returns-in_ok-settle_on-in-Some-clause-goes
returns-in_ok-settle_on-in-Some-clause-goes g c =
    let run = c.in_ok-run.run'.commands in
    let within = run_within c.cap.result c.args.board.now.progress (length run) c.requires.calm.even.taken c.in_ok-run.ensures.taken.longest in
    let held = ap (λ (l : List (List Taken)). l ++ waiting_of c.hold.new.self) (c.hold.ensures.committed ∙ c.requires.calm.committed) ∙ c.hold.ensures.waiting in
    let written = (rw c.in-Some.is at c.in_ok-write.ensures.published).some in
    let same = same_batch _ c.in-Some.both.0.batch run written.batch held in
    let tells = written.published ∙ ap (λ (l : List (List Taken)). told_of c.hold.new.self ++ l) held ∙ ap (λ (l : List (List Taken)). l ++ run ∷ []) c.hold.ensures.told in
    let knows = ap (λ (b : Board). b.told) c.in_ok-settle_on-in-Some.ensures.moves ∙ written.token_is in
    let boards =
    ap (λ (b : Board). b.progress) c.in_ok-settle_on-in-Some.ensures.moves ∙ ap (λ (r : List Taken). settled_more c.take.new.self.progress (length r)) same
    ∙ ap (λ (b : Board). settled_more b.progress (length run)) c.in_ok-run.ensures.taken.moves in
    let works = false_from_ne_true (has_failed (store_of c.write.new.self)) (λ failed.
    let fault = (c.in_ok-write.ensures.writes.faults.fails (ap has_failed c.hold.ensures.store ∙ c.requires.works)).0 failed in
    let no : ⊥ = cc in no) in
    (run_settled g.L.Life.start (standing c.args.board.now c.args.flusher.now) c.settle_on.new.board.progress c.settle_on.new.board.told (told_of c.write.new.self) (committed_of c.write.new.self) (waiting_of c.write.new.self)
    (store_of c.write.new.self) run c.requires.calm c.in_ok-run.ensures.taken.next within boards knows tells c.in_ok-write.ensures.published.committed c.in_ok-write.ensures.published.waiting
    (c.kept.ensures ∙ ap (λ (l : List (List Taken)). fold g.L.Life.start (commands_of (told_of c.write.new.self ++ l))) c.in_ok-write.ensures.published.committed
    ∙ ap (λ (l : List (List Taken)). fold g.L.Life.start (commands_of l)) (append-nil (told_of c.write.new.self))) works
    (goes_held (store_of c.args.flusher.now) (store_of c.hold.new.self) (store_of c.write.new.self) (waiting_of c.hold.new.self) run c.hold.ensures.store c.hold.ensures.waiting c.write.ensures.writes.goes)).1

pub returns-in_ok-settle_on-in-Some-clause-calm : goal.returns-in_ok-settle_on-in-Some-clause-calm
returns-in_ok-settle_on-in-Some-clause-calm g c =
    let run = c.in_ok-run.run'.commands in
    let within = run_within c.cap.result c.args.board.now.progress (length run) c.requires.calm.even.taken c.in_ok-run.ensures.taken.longest in
    let held = ap (λ (l : List (List Taken)). l ++ waiting_of c.hold.new.self) (c.hold.ensures.committed ∙ c.requires.calm.committed) ∙ c.hold.ensures.waiting in
    let written = (rw c.in-Some.is at c.in_ok-write.ensures.published).some in
    let same = same_batch _ c.in-Some.both.0.batch run written.batch held in
    let tells = written.published ∙ ap (λ (l : List (List Taken)). told_of c.hold.new.self ++ l) held ∙ ap (λ (l : List (List Taken)). l ++ run ∷ []) c.hold.ensures.told in
    let knows = ap (λ (b : Board). b.told) c.in_ok-settle_on-in-Some.ensures.moves ∙ written.token_is in
    let boards =
    ap (λ (b : Board). b.progress) c.in_ok-settle_on-in-Some.ensures.moves ∙ ap (λ (r : List Taken). settled_more c.take.new.self.progress (length r)) same
    ∙ ap (λ (b : Board). settled_more b.progress (length run)) c.in_ok-run.ensures.taken.moves in
    let works = false_from_ne_true (has_failed (store_of c.write.new.self)) (λ failed.
    let fault = (c.in_ok-write.ensures.writes.faults.fails (ap has_failed c.hold.ensures.store ∙ c.requires.works)).0 failed in
    let no : ⊥ = cc in no) in
    (run_settled g.L.Life.start (standing c.args.board.now c.args.flusher.now) c.settle_on.new.board.progress c.settle_on.new.board.told (told_of c.write.new.self) (committed_of c.write.new.self) (waiting_of c.write.new.self)
    (store_of c.write.new.self) run c.requires.calm c.in_ok-run.ensures.taken.next within boards knows tells c.in_ok-write.ensures.published.committed c.in_ok-write.ensures.published.waiting
    (c.kept.ensures ∙ ap (λ (l : List (List Taken)). fold g.L.Life.start (commands_of (told_of c.write.new.self ++ l))) c.in_ok-write.ensures.published.committed
    ∙ ap (λ (l : List (List Taken)). fold g.L.Life.start (commands_of l)) (append-nil (told_of c.write.new.self))) works
    (goes_held (store_of c.args.flusher.now) (store_of c.hold.new.self) (store_of c.write.new.self) (waiting_of c.hold.new.self) run c.hold.ensures.store c.hold.ensures.waiting c.write.ensures.writes.goes)).0

pub returns-in_ok-settle_on-in-Some-clause-settled : goal.returns-in_ok-settle_on-in-Some-clause-settled
returns-in_ok-settle_on-in-Some-clause-settled g c =
    let run = c.in_ok-run.run'.commands in
    let some : 0 < length run = omega arith in
    let held = ap (λ (l : List (List Taken)). l ++ waiting_of c.hold.new.self) (c.hold.ensures.committed ∙ c.requires.calm.committed) ∙ c.hold.ensures.waiting in
    let written = (rw c.in-Some.is at c.in_ok-write.ensures.published).some in
    let same = same_batch _ c.in-Some.both.0.batch run written.batch held in
    let tells =
    written.token_is ∙ written.published ∙ ap (λ (l : List (List Taken)). told_of c.hold.new.self ++ l) held
    ∙ ap (λ (l : List (List Taken)). l ++ run ∷ []) (c.hold.ensures.told ∙ sym c.requires.calm.known) in
    let count : length run ≡ c.len-count.result = omega arith in
    turned_by c.args.board.now c.take.new.self c.settle_on.new.board (length run) run c.in-Some.both.1 c.in_ok-run.ensures.taken.moves
    (c.in_ok-settle_on-in-Some.ensures.moves ∙ ap (λ (r : List Taken). record c.take.new.self { progress = settled_more c.take.new.self.progress (length r); told = c.in-Some.both.1 }) same)
    c.in_ok-run.ensures.taken.next some tells ∙ ap (turned c.args.board.now) count

pub returns-in_ok-settle_on-in-Some-clause-state : goal.returns-in_ok-settle_on-in-Some-clause-state
returns-in_ok-settle_on-in-Some-clause-state g c =
    let count : length c.in_ok-run.run'.commands ≡ c.len-count.result = omega arith in
    c.in_ok-write.ensures.published.state ∙ ap (λ s. fold (state_of s) (commands_of (waiting_of c.hold.new.self))) c.hold.ensures.store
    ∙ ap (λ (l : List (List Taken)). fold (state_of (store_of c.args.flusher.now)) (commands_of l)) c.hold.ensures.waiting
    ∙ ap (fold (state_of (store_of c.args.flusher.now))) (append-nil c.in_ok-run.run'.commands ∙ c.in_ok-run.ensures.taken.next ∙ ap (λ (n : ℕ). takens (next_run c.args.board.now.progress n)) count)

pub returns-in_ok-settle_on-in-Some-clause-committed : goal.returns-in_ok-settle_on-in-Some-clause-committed
returns-in_ok-settle_on-in-Some-clause-committed g c =
    let run = c.in_ok-run.run'.commands in
    let some : 0 < length run = omega arith in
    let count : length run ≡ c.len-count.result = omega arith in
    let done = subst (λ s. IsHeldCommitted (waiting_of c.hold.new.self) s (store_of c.write.new.self)) c.hold.ensures.store c.in_ok-write.ensures.published.store in
    subst (λ (r : List Taken). IsRunCommitted r (store_of c.args.flusher.now) (store_of c.write.new.self))
    (c.in_ok-run.ensures.taken.next ∙ ap (λ (n : ℕ). takens (next_run c.args.board.now.progress n)) count)
    (run_committed (store_of c.args.flusher.now) (store_of c.write.new.self) run (waiting_of c.hold.new.self) c.hold.ensures.waiting some done)

pub returns-in_err-write-clause-refused : goal.returns-in_err-write-clause-refused
returns-in_err-write-clause-refused g c =
    let run = c.in_ok-run.run'.commands in
    let store = store_of c.args.flusher.now in
    let cap : ℕ = cap_of (state_of store) in
    let e = c.in_err-write.ensures in
    let longest = subst (λ (n : ℕ). IsLongest n (untaken c.args.board.now.progress) (length run)) c.cap.ensures c.in_ok-run.ensures.taken.longest in
    let p = err_from_is_err_and c.from_residual-in_err-write.result c.from_residual-in_err-write.ensures.1 in
    let some : 1 ≤ length run = omega arith in
    handed_on (λ r. ((r ≡ NoMemory) ⊎ (r ≡ Fault)) ⊎ IsTurnRefused cap c.args.board.now store r c.write.new.self) c.from_residual-in_err-write.result p.0 c.in_err-write.field-0.0 p.1 p.2
    (turn_refused cap c.args.board.now store c.hold.new.self c.write.new.self run c.in_err-write.field-0.0 c.hold.ensures.waiting c.hold.ensures.store c.in_ok-run.ensures.taken.next longest some
    e.refused e.writes.why)

pub returns-in_err-settle_on-in-Some-clause-refused : goal.returns-in_err-settle_on-in-Some-clause-refused
returns-in_err-settle_on-in-Some-clause-refused g c =
    let run = c.in_ok-run.run'.commands in
    let some : 0 < length run = omega arith in
    let held = ap (λ (l : List (List Taken)). l ++ waiting_of c.hold.new.self) (c.hold.ensures.committed ∙ c.requires.calm.committed) ∙ c.hold.ensures.waiting in
    let written = (rw c.in-Some.is at c.in_ok-write.ensures.published).some in
    let same = same_batch _ c.in-Some.both.0.batch run written.batch held in
    let tells = written.token_is ∙ written.published ∙ ap (λ (l : List (List Taken)). told_of c.hold.new.self ++ l) held ∙ ap (λ (l : List (List Taken)). l ++ run ∷ []) c.hold.ensures.told in
    absurd (false≢true (c.in_err-settle_on-in-Some.ensures.settles
    (may_settle g.L.Life.start (standing c.args.board.now c.args.flusher.now) c.take.new.self.progress run c.in-Some.both.0.batch c.in-Some.both.1 c.requires.calm c.in_ok-run.ensures.taken.next
    (ap (λ (b : Board). b.progress) c.in_ok-run.ensures.taken.moves) some same tells)))

pub returns-in_err-run-clause-left : goal.returns-in_err-run-clause-left
returns-in_err-run-clause-left g c =
    let store = store_of c.args.flusher.now in
    let left : IsUnsettled (cap_of (state_of store)) c.args.board.now store c.take.new.self store = inl (c.in_err-run.ensures.unchanged, refl) in
    on_err c.from_residual.result left

pub returns-in_err-write-clause-left : goal.returns-in_err-write-clause-left
returns-in_err-write-clause-left g c =
    let run = c.in_ok-run.run'.commands in
    let longest = subst (λ (n : ℕ). IsLongest n (untaken c.args.board.now.progress) (length run)) c.cap.ensures c.in_ok-run.ensures.taken.longest in
    let some : 1 ≤ length run = omega arith in
    let store = store_of c.args.flusher.now in
    let left : IsUnsettled (cap_of (state_of store)) c.args.board.now store c.take.new.self (store_of c.write.new.self) = inr (length run, longest, some, c.in_ok-run.ensures.taken.moves) in
    on_err c.from_residual-in_err-write.result left

pub returns-in_err-settle_on-in-Some-clause-left : goal.returns-in_err-settle_on-in-Some-clause-left
returns-in_err-settle_on-in-Some-clause-left g c =
    let run = c.in_ok-run.run'.commands in
    let longest = subst (λ (n : ℕ). IsLongest n (untaken c.args.board.now.progress) (length run)) c.cap.ensures c.in_ok-run.ensures.taken.longest in
    let some : 1 ≤ length run = omega arith in
    let store = store_of c.args.flusher.now in
    let left : IsUnsettled (cap_of (state_of store)) c.args.board.now store c.settle_on.new.board (store_of c.write.new.self) =
    inr (length run, longest, some, c.in_err-settle_on-in-Some.ensures.unchanged ∙ c.in_ok-run.ensures.taken.moves) in
    on_err c.from_residual-in_err-settle_on-in-Some.result left

pub returns-in_err-settle_on-in-Some-clause-unpublished : goal.returns-in_err-settle_on-in-Some-clause-unpublished
returns-in_err-settle_on-in-Some-clause-unpublished g c =
    let run = c.in_ok-run.run'.commands in
    let some : 0 < length run = omega arith in
    let held = ap (λ (l : List (List Taken)). l ++ waiting_of c.hold.new.self) (c.hold.ensures.committed ∙ c.requires.calm.committed) ∙ c.hold.ensures.waiting in
    let written = (rw c.in-Some.is at c.in_ok-write.ensures.published).some in
    let same = same_batch _ c.in-Some.both.0.batch run written.batch held in
    let tells = written.token_is ∙ written.published ∙ ap (λ (l : List (List Taken)). told_of c.hold.new.self ++ l) held ∙ ap (λ (l : List (List Taken)). l ++ run ∷ []) c.hold.ensures.told in
    absurd (false≢true (c.in_err-settle_on-in-Some.ensures.settles
    (may_settle g.L.Life.start (standing c.args.board.now c.args.flusher.now) c.take.new.self.progress run c.in-Some.both.0.batch c.in-Some.both.1 c.requires.calm c.in_ok-run.ensures.taken.next
    (ap (λ (b : Board). b.progress) c.in_ok-run.ensures.taken.moves) some same tells)))

pub returns-in_ok-settle_on-in-Some-clause-works : goal.returns-in_ok-settle_on-in-Some-clause-works
returns-in_ok-settle_on-in-Some-clause-works g c =
    false_from_ne_true (has_failed (store_of c.write.new.self)) (λ failed.
    let fault = (c.in_ok-write.ensures.writes.faults.fails (ap has_failed c.hold.ensures.store ∙ c.requires.works)).0 failed in
    let no : ⊥ = cc in no)
