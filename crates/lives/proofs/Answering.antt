-- How a run continues by one call, and what its answers then say.
use Rattle.std.proofs.Common.{◌≡◌, ◌≢◌, ◌≤◌, ◌<◌, ◌⊎◌, inl, inr, ℕ, suc, zero, ◌+◌, false, Option, Some, None, List, [], ◌∷◌, ◌++◌, length, take, get_or, refl, sym, ◌∙◌, ap, subst, arith, append-nil}
use Rattle.std.specs.Prelude.{Result, Ok, Err, OnOk, OnErr, IfOk, IfErr, IsErrOf, slice_get, min, true, ◌↔◌, ◌^◌, ◌-◌}
use Rattle.std.proofs.lemmas.Bool.{false≢true}
use Rattle.std.proofs.lemmas.Bool.Decides.{nat_tests}
use Rattle.std.proofs.lemmas.List.{take_more}
use Rattle.std.proofs.lemmas.Option.{slice_get-get_or}
use Rattle.disk.specs.declared.device.Disk.{Ghosts}
use Rattle.disk.specs.Crash.{LeavesOnly, MayLeaveNow}
use Rattle.disk.proofs.CallerLemmas.{leaves_map}
use Rattle.refusal.specs.Refusal.{IsOneOf}
use Rattle.refusal.specs.declared.Refusal.{Refusal}
use Rattle.refusal.specs.declared.Refusal.TheVariants.{JournalFull, StillNeeded, NoMemory, Fault}
use Rattle.revision.specs.Command.{Taken, Command}
use Rattle.revision.specs.State.{State, fold}
use Rattle.revision.specs.Acceptance.{answer}
use Rattle.world.specs.Progress.{Progress, Ticket, submitted, next_run, taken_more, settled_more}
use Rattle.world.specs.World.{Entry, entry_of, takens}
use Rattle.hub.specs.Legal.{Board as Outer}
use Rattle.hub.specs.Runs.{IsLongest, untaken}
use Rattle.recovery.specs.declared.store.Store.{Store}
use Rattle.recovery.specs.declared.run.StoreStep.TheVariants.{Milestone as PutsMilestone, Retire as Retires}
use Rattle.recovery.specs.Begun.{IsLeftByMemory}
use Rattle.recovery.specs.Found.{commands_of, FoundAs}
use Rattle.recovery.specs.Open.{IsOpen, IsUnchanged, device_of, state_of, has_failed, has_room}
use Rattle.recovery.specs.Run.{IsTaken, IsWhy}
use Rattle.recovery.specs.Goes.{Goes}
use Rattle.lives.specs.declared.calls.Call.{Call}
use Rattle.lives.specs.declared.calls.Call.TheVariants.{Submit, Turn, Ack, Milestone, Retire}
use Rattle.lives.specs.declared.calls.Answer.{Answer}
use Rattle.lives.specs.declared.calls.Answer.TheVariants.{Submitted, Turned, Acked, Put, Retired, Refused}
use Rattle.flusher.specs.declared.flusher.Flusher.{Flusher}
use Rattle.flusher.specs.Flushers.{IsUsedUp, cap_of}
use Rattle.flusher.specs.Writing.{IsUnpublished, IsWriteRefused}
use Rattle.flusher.specs.Holding.{store_of, HasNoRoom, waiting_of}
use Rattle.flusher.specs.Standing.{Standing, IsEven, IsCalm}
use Rattle.flusher.proofs.CallerLemmas.{same_batch}
use Rattle.lives.specs.Run.{IsFirst, batches_of, RunGoes}
use Rattle.lives.specs.Driving.{Between, AckGives, Gives, Answered, Begins, Follows, IsHeld, AreHeld, IsTurnRefused, IsUnanswered, IsUnsettled, Stops, with_run, turned}
use Rattle.lives.proofs.Beginnings.{is_first}
use Rattle.lives.proofs.Evens.{all_batches, takens_length}
use Rattle.lives.proofs.Running.{run_none}
use Rattle.lives.proofs.Steps.{run_submitted, run_store, settled_by}
use Rattle.revision.proofs.CallerLemmas.{limits-fold}
pub use Rattle.recovery.proofs.CallerLemmas.{on_ok}

-- the cap stays what it was at the start
pub same_cap : (start state : State) (commands : List Taken) → state ≡ fold start commands → cap_of state ≡ cap_of start
same_cap start state commands is = ap cap_of is ∙ ap (λ l. min (l.width + 4) (2 ^ 32 - 1)) (limits-fold start commands)

module _ {D : Type 0} {disk : Ghosts D} where
  pub submit_goes : {A E : Type 0} (T : Type 0) (start : State) (here : Standing D disk) (old board : Outer) (command : Command) (result : Result A E) → IsCalm start here
      → OnOk result (board.progress ≡ submitted (entry_of command) here.board command) → OnErr result ((board ≡ old) × T) → old.progress ≡ here.board → board.told ≡ here.known
      → RunGoes start here (record here { board = board.progress; known = board.told })
  submit_goes T start here old board command (Ok a) calm ok err same knows = (run_submitted start here board.progress board.told command calm ok knows).1
  submit_goes T start here old board command (Err e) calm ok err same knows =
      subst (λ (k : List (List Taken)). RunGoes start here (record here { board = board.progress; known = k })) (sym knows)
      (subst (λ (b : Progress Entry). RunGoes start here (record here { board = b })) (sym (ap (λ (b : Outer). b.progress) err.0 ∙ same)) (run_none start here calm))

  -- the store alone changes, by equations
  pub run_store_by : (start : State) (here : Standing D disk) (told committed waiting : List (List Taken)) (store : Store D disk) → IsCalm start here → state_of store ≡ state_of here.store
      → Goes (λ content. FoundAs content (state_of here.store)) here.store store → told ≡ here.told → committed ≡ here.committed → waiting ≡ here.waiting
      → IsCalm start (record { board = here.board; known = here.known; told = told; committed = committed; waiting = waiting; store = store })
      × RunGoes start here (record { board = here.board; known = here.known; told = told; committed = committed; waiting = waiting; store = store })
  run_store_by start here told committed waiting store calm same goes tells commits waits =
      let P : Standing D disk → Type 0 = λ (after : Standing D disk). IsCalm start after × RunGoes start here after in
      subst (λ (t : List (List Taken)). P (record { board = here.board; known = here.known; told = t; committed = committed; waiting = waiting; store = store })) (sym tells)
      (subst (λ (c : List (List Taken)). P (record { board = here.board; known = here.known; told = here.told; committed = c; waiting = waiting; store = store })) (sym commits)
      (subst (λ (w : List (List Taken)). P (record { board = here.board; known = here.known; told = here.told; committed = here.committed; waiting = w; store = store })) (sym waits)
      (run_store start here store calm same goes)))

  -- the batches that are there at the end are the order as far as it is taken off
  batches_in : (here : Standing D disk) → IsEven here → commands_of (batches_of here) ≡ take here.board.taken (takens here.board.order)
  batches_in here even =
      all_batches (takens here.board.order) here.board.settled here.board.taken even.settled (omega (arith, even.taken, takens_length here.board.order)) here.told (here.committed ++ here.waiting) even.parts

  -- what a crash at any moment of a run leaves, as commands of the order
  pub first_any_moment : (start : State) (old new : Standing D disk) → RunGoes start old new → has_failed old.store ≡ false → IsOpen old.store
      → LeavesOnly disk (IsFirst old.board.settled start (takens new.board.order) (batches_of new)) (device_of old.store) (device_of new.store)
  first_any_moment start old new goes works is_open =
      leaves_map (λ content found. is_first old.board.settled start (takens new.board.order) (batches_of new) new.board.taken content (batches_in new goes.even) found)
      (goes.goes.any_moment works is_open)

  -- and one at its end
  pub first_now : (start : State) (old new : Standing D disk) → RunGoes start old new → has_failed old.store ≡ false → IsOpen old.store
      → (content : List ℕ) → MayLeaveNow disk (device_of new.store) content → IsFirst new.board.settled start (takens new.board.order) (batches_of new) content
  first_now start old new goes works is_open content left =
      is_first new.board.settled start (takens new.board.order) (batches_of new) new.board.taken content (batches_in new goes.even) (goes.lasts works is_open content left)

pub before_more : {A : Type 0} (xs more : List A) (at : ℕ) (x : A) → slice_get xs at ≡ Some x → slice_get (xs ++ more) at ≡ Some x
before_more [] more at x is = absurd (let no : ⊥ = cc in no)
before_more (y ∷ ys) more zero x is = is
before_more (y ∷ ys) more (suc at) x is = before_more ys more at x is

-- more is settled, and more tickets are out
record Grows (board : Progress Entry) (tickets : List Ticket) (after : Progress Entry) (out : List Ticket) : Type 0 where
  pub settled : board.settled ≤ after.settled
  pub more : (l : List Ticket) × (out ≡ tickets ++ l)

grows_not : (board : Progress Entry) (tickets : List Ticket) (after : Progress Entry) (out : List Ticket) → after ≡ board → out ≡ tickets → Grows board tickets after out
grows_not board tickets after out is same = record { settled = omega (arith, ap (λ (b : Progress Entry). b.settled) is); more = ([], same ∙ sym (append-nil tickets)) }

module _ {D : Type 0} {disk : Ghosts D} where
  -- no more of either
  still : (here after : Between D disk) → after.board ≡ here.board → after.tickets ≡ here.tickets → Grows here.board.progress here.tickets after.board.progress after.tickets
  still here after is same = grows_not here.board.progress here.tickets after.board.progress after.tickets (ap (λ (b : Outer). b.progress) is) same

  stays : (here after : Between D disk) → after ≡ here → Grows here.board.progress here.tickets after.board.progress after.tickets
  stays here after is = still here after (ap (λ (b : Between D disk). b.board) is) (ap (λ (b : Between D disk). b.tickets) is)

  ack_holds : (here after : Between D disk) (at : ℕ) (told : List (List Taken)) (found : Option Ticket) → slice_get here.tickets at ≡ found → after ≡ here
      → AckGives here.board found (Some told) → (ticket : Ticket) × (slice_get after.tickets at ≡ Some ticket) × (ticket.length ≤ after.board.progress.settled)
  ack_holds here after at told None is same gives = absurd (let no : ⊥ = cc in no)
  ack_holds here after at told (Some ticket) is same gives =
      let enough : ticket.length ≤ here.board.progress.settled = grind (arith, nat_tests, gives.0) in
      (ticket, ap (λ (b : Between D disk). slice_get b.tickets at) same ∙ is, omega (arith, enough, ap (λ (b : Between D disk). b.board.progress.settled) same))

module _ {D L : Type 0} where
  held_later : (settled later : ℕ) (tickets out l : List Ticket) (call : Call) (reply : Answer D L) → settled ≤ later → out ≡ tickets ++ l → IsHeld settled tickets call reply → IsHeld later out call reply
  held_later settled later tickets out l (Ack at) (Acked (Some told)) le more held = (held.0, ap (λ (t : List Ticket). slice_get t at) more ∙ before_more tickets l at held.0 held.1, omega (arith, held.2, le))
  held_later settled later tickets out l (Ack at) (Acked None) le more held = tt
  held_later settled later tickets out l (Ack at) (Submitted n) le more held = tt
  held_later settled later tickets out l (Ack at) (Turned n) le more held = tt
  held_later settled later tickets out l (Ack at) Put le more held = tt
  held_later settled later tickets out l (Ack at) Retired le more held = tt
  held_later settled later tickets out l (Ack at) (Refused refusal) le more held = tt
  held_later settled later tickets out l (Submit command) reply le more held = tt
  held_later settled later tickets out l Turn reply le more held = tt
  held_later settled later tickets out l (Milestone document revision) reply le more held = tt
  held_later settled later tickets out l Retire reply le more held = tt

  -- what is held stays held
  pub all_later : (settled later : ℕ) (tickets out l : List Ticket) (calls : List Call) (answers : List (Answer D L)) → settled ≤ later → out ≡ tickets ++ l → AreHeld settled tickets calls answers
      → AreHeld later out calls answers
  all_later settled later tickets out l [] [] le more held = tt
  all_later settled later tickets out l [] (reply ∷ answers) le more held = absurd held
  all_later settled later tickets out l (call ∷ calls) [] le more held = absurd held
  all_later settled later tickets out l (call ∷ calls) (reply ∷ answers) le more held =
      (held_later settled later tickets out l call reply le more held.0, all_later settled later tickets out l calls answers le more held.1)

  at_the_end : (settled : ℕ) (tickets : List Ticket) (calls : List Call) (answers : List (Answer D L)) (call : Call) (reply : Answer D L) → AreHeld settled tickets calls answers
      → IsHeld settled tickets call reply → AreHeld settled tickets (calls ++ call ∷ []) (answers ++ reply ∷ [])
  at_the_end settled tickets [] [] call reply held last = (last, tt)
  at_the_end settled tickets [] (other ∷ answers) call reply held last = absurd held
  at_the_end settled tickets (first ∷ calls) [] call reply held last = absurd held
  at_the_end settled tickets (first ∷ calls) (other ∷ answers) call reply held last = (held.0, at_the_end settled tickets calls answers call reply held.1 last)

module _ {D L : Type 0} {disk : Ghosts D} where
  grows_by : (cap : ℕ) (here : Between D disk) (call : Call) (reply : Answer D L) (after : Between D disk) → Gives cap here call reply after
      → Grows here.board.progress here.tickets after.board.progress after.tickets
  grows_by cap here (Submit command) (Submitted at) after gives = record {
    settled = omega (arith, ap (λ (b : Outer). b.progress.settled) gives.0, settled_by (entry_of command) here.board.progress (answer here.board.progress.state command));
    more = (gives.2.0 ∷ [], gives.2.2);
  }
  grows_by cap here (Submit command) (Refused refusal) after gives = stays here after gives.0
  grows_by cap here (Submit command) (Turned n) after gives = absurd gives
  grows_by cap here (Submit command) (Acked told) after gives = absurd gives
  grows_by cap here (Submit command) Put after gives = absurd gives
  grows_by cap here (Submit command) Retired after gives = absurd gives
  grows_by cap here Turn (Turned n) after gives = record {
    settled = omega (arith, ap (λ (b : Outer). b.progress.settled) gives.1);
    more = ([], gives.2 ∙ sym (append-nil here.tickets));
  }
  grows_by cap here Turn (Submitted at) after gives = absurd gives
  grows_by cap here Turn (Acked told) after gives = absurd gives
  grows_by cap here Turn Put after gives = absurd gives
  grows_by cap here Turn Retired after gives = absurd gives
  grows_by cap here Turn (Refused refusal) after gives = absurd gives
  grows_by cap here (Ack at) (Acked told) after gives = stays here after gives.0
  grows_by cap here (Ack at) (Submitted n) after gives = absurd gives
  grows_by cap here (Ack at) (Turned n) after gives = absurd gives
  grows_by cap here (Ack at) Put after gives = absurd gives
  grows_by cap here (Ack at) Retired after gives = absurd gives
  grows_by cap here (Ack at) (Refused refusal) after gives = absurd gives
  grows_by cap here (Milestone document revision) Put after gives = still here after gives.0 gives.1
  grows_by cap here (Milestone document revision) (Refused refusal) after gives = still here after gives.0 gives.1
  grows_by cap here (Milestone document revision) (Submitted n) after gives = absurd gives
  grows_by cap here (Milestone document revision) (Turned n) after gives = absurd gives
  grows_by cap here (Milestone document revision) (Acked told) after gives = absurd gives
  grows_by cap here (Milestone document revision) Retired after gives = absurd gives
  grows_by cap here Retire Retired after gives = still here after gives.0 gives.1
  grows_by cap here Retire (Refused refusal) after gives = still here after gives.0 gives.1
  grows_by cap here Retire (Submitted n) after gives = absurd gives
  grows_by cap here Retire (Turned n) after gives = absurd gives
  grows_by cap here Retire (Acked told) after gives = absurd gives
  grows_by cap here Retire Put after gives = absurd gives

  gives_held : (cap : ℕ) (here : Between D disk) (call : Call) (reply : Answer D L) (after : Between D disk) → Gives cap here call reply after
      → IsHeld after.board.progress.settled after.tickets call reply
  gives_held cap here (Ack at) (Acked (Some told)) after gives = ack_holds here after at told (slice_get here.tickets at) refl gives.0 gives.1
  gives_held cap here (Ack at) (Acked None) after gives = tt
  gives_held cap here (Ack at) (Submitted n) after gives = tt
  gives_held cap here (Ack at) (Turned n) after gives = tt
  gives_held cap here (Ack at) Put after gives = tt
  gives_held cap here (Ack at) Retired after gives = tt
  gives_held cap here (Ack at) (Refused refusal) after gives = tt
  gives_held cap here (Submit command) reply after gives = tt
  gives_held cap here Turn reply after gives = tt
  gives_held cap here (Milestone document revision) reply after gives = tt
  gives_held cap here Retire reply after gives = tt

  -- each acknowledgement of an answered run is held by what is settled at its end
  pub answered_held : (cap : ℕ) (start : Between D disk) (calls : List Call) (answers : List (Answer D L)) (here : Between D disk) → Answered cap start calls answers here
      → AreHeld here.board.progress.settled here.tickets calls answers
  answered_held cap start _ _ _ Begins = tt
  answered_held cap start _ _ _ (Follows calls answers here call reply after before gives works opens) =
      let grows = grows_by cap here call reply after gives in
      at_the_end after.board.progress.settled after.tickets calls answers call reply
      (all_later here.board.progress.settled after.board.progress.settled here.tickets after.tickets grows.more.0 calls answers grows.settled grows.more.1 (answered_held cap start calls answers here before))
      (gives_held cap here call reply after gives)

  -- none is answered yet
  pub begins_at : (cap : ℕ) (board : Outer) (store : Store D disk) (answers : List (Answer D L)) (tickets : List Ticket) → answers ≡ [] → tickets ≡ []
      → Answered cap (record { board = board; tickets = []; store = store }) [] answers (record { board = board; tickets = tickets; store = store })
  begins_at cap board store answers tickets none nothing =
      subst (λ (a : List (Answer D L)). Answered {D = D} {L = L} cap (record { board = board; tickets = []; store = store }) [] a (record { board = board; tickets = tickets; store = store })) (sym none)
      (subst (λ (t : List Ticket). Answered {D = D} {L = L} cap (record { board = board; tickets = []; store = store }) [] [] (record { board = board; tickets = t; store = store })) (sym nothing) Begins)

  -- one call more is answered
  pub one_more : (cap : ℕ) (start : Between D disk) (all : List Call) (at : ℕ) (call : Call) (answers : List (Answer D L)) (here : Between D disk) (reply : Answer D L) (after : Between D disk)
      (d : Call) → at < length all → call ≡ get_or all at d → Answered cap start (take at all) answers here → Gives cap here call reply after
      → has_failed after.store ≡ false → (IsOpen here.store → IsOpen after.store)
      → Answered cap start (take (at + 1) all) (answers ++ reply ∷ []) after
  one_more cap start all at call answers here reply after d inside is before gives works opens =
      subst (λ (calls : List Call). Answered cap start calls (answers ++ reply ∷ []) after)
      (ap (λ (c : Call). take at all ++ c ∷ []) is ∙ sym (take_more all at d inside))
      (Follows (take at all) answers here call reply after before gives works opens)

  -- what a milestone gives, by its answer
  pub gives_put : (cap : ℕ) (here : Between D disk) (document revision : ℕ) (reply : Answer D L) (store : Store D disk)
      → ((reply ≡ Put) × IsTaken (PutsMilestone document revision) here.store store)
      ⊎ ((refusal : Refusal) × (reply ≡ Refused refusal) × IsUnchanged here.store store × IsWhy (PutsMilestone document revision) refusal here.store)
      → Gives cap here (Milestone document revision) reply (record here { store = store })
  gives_put cap here document revision reply store (inl put) =
      subst (λ (a : Answer D L). Gives cap here (Milestone document revision) a (record here { store = store })) (sym put.0) (refl, refl, put.1)
  gives_put cap here document revision reply store (inr (refusal, is, same, why)) =
      subst (λ (a : Answer D L). Gives cap here (Milestone document revision) a (record here { store = store })) (sym is) (refl, refl, same, why)

  -- and what a retirement gives
  pub gives_retired : (cap : ℕ) (here : Between D disk) (reply : Answer D L) (store : Store D disk)
      → ((reply ≡ Retired) × IsTaken Retires here.store store)
      ⊎ ((refusal : Refusal) × (reply ≡ Refused refusal) × IsUnchanged here.store store × IsWhy Retires refusal here.store)
      → Gives cap here Retire reply (record here { store = store })
  gives_retired cap here reply store (inl retired) =
      subst (λ (a : Answer D L). Gives cap here Retire a (record here { store = store })) (sym retired.0) (refl, refl, retired.1)
  gives_retired cap here reply store (inr (refusal, is, same, why)) =
      subst (λ (a : Answer D L). Gives cap here Retire a (record here { store = store })) (sym is) (refl, refl, same, why)

  -- the same of all that they may answer
  pub puts : {E : Type 0} (cap : ℕ) (here : Between D disk) (document revision : ℕ) (result : Result (Answer D L) E) (store : Store D disk)
      → IfOk result (λ reply. ((reply ≡ Put) × IsTaken (PutsMilestone document revision) here.store store)
      ⊎ ((refusal : Refusal) × (reply ≡ Refused refusal) × IsUnchanged here.store store × IsWhy (PutsMilestone document revision) refusal here.store))
      → IfOk result (λ reply. Gives cap here (Milestone document revision) reply (record here { store = store }))
  puts cap here document revision (Ok reply) store answers = gives_put cap here document revision reply store answers
  puts cap here document revision (Err e) store answers = tt

  pub retires : {E : Type 0} (cap : ℕ) (here : Between D disk) (result : Result (Answer D L) E) (store : Store D disk)
      → IfOk result (λ reply. ((reply ≡ Retired) × IsTaken Retires here.store store)
      ⊎ ((refusal : Refusal) × (reply ≡ Refused refusal) × IsUnchanged here.store store × IsWhy Retires refusal here.store))
      → IfOk result (λ reply. Gives cap here Retire reply (record here { store = store }))
  retires cap here (Ok reply) store answers = gives_retired cap here reply store answers
  retires cap here (Err e) store answers = tt

  -- what a call gives, by the case of the call
  pub gives_one : (cap : ℕ) (here : Between D disk) (call known : Call) (reply : Answer D L) (after : Between D disk) → call ≡ known
      → Gives cap here known reply after → Gives cap here call reply after
  gives_one cap here call known reply after is gives = subst (λ (c : Call). Gives cap here c reply after) (sym is) gives

  pub gives_of : {E : Type 0} (cap : ℕ) (here : Between D disk) (call known : Call) (result : Result (Answer D L) E) (after : Between D disk) → call ≡ known
      → IfOk result (λ reply. Gives cap here known reply after) → IfOk result (λ reply. Gives cap here call reply after)
  gives_of cap here call known result after is gives = subst (λ (c : Call). IfOk result (λ reply. Gives cap here c reply after)) (sym is) gives

-- what holds always holds of an Err
pub on_err : {A E T : Type 0} (result : Result A E) → T → OnErr result T
on_err (Ok a) holds = tt
on_err (Err e) holds = holds

-- What a call leaves that isn't answered, by the case of the call.
module _ {D : Type 0} {disk : Ghosts D} where
  pub unanswered_of : {A E : Type 0} (cap : ℕ) (here : Between D disk) (call known : Call) (result : Result A E) (after : Between D disk) → call ≡ known
      → OnErr result (IsUnanswered cap here known after) → OnErr result (IsUnanswered cap here call after)
  unanswered_of cap here call known result after is left = subst (λ (c : Call). OnErr result (IsUnanswered cap here c after)) (sym is) left

  abbrev at_between : Outer → List Ticket → Store D disk → Between D disk
  at_between board tickets store = record { board = board; tickets = tickets; store = store }

  -- a submission
  pub unsubmitted : {A E : Type 0} (cap : ℕ) (command : Command) (result : Result A E) (board board-after : Outer) (tickets tickets-after : List Ticket) (store : Store D disk)
      → OnErr result ((board-after ≡ board) × (tickets-after ≡ tickets))
      → OnErr result (IsUnanswered cap (record { board = board; tickets = tickets; store = store }) (Submit command) (record { board = board-after; tickets = tickets-after; store = store }))
  unsubmitted cap command (Ok answer) board board-after tickets tickets-after store same = tt
  unsubmitted cap command (Err e) board board-after tickets tickets-after store same =
      ap (λ (b : Outer). at_between b tickets-after store) same.0 ∙ ap (λ (t : List Ticket). at_between board t store) same.1

  -- a turn, with the cap of the start
  pub unturned : {A E : Type 0} (cap other : ℕ) (result : Result A E) (here : Between D disk) (board-after : Outer) (store-after : Store D disk) → cap ≡ other
      → IsUnsettled cap here.board here.store board-after store-after
      → OnErr result (IsUnanswered other here Turn (record { board = board-after; tickets = here.tickets; store = store-after }))
  unturned cap other result here board-after store-after same left =
      let turned : IsUnanswered other here Turn (record { board = board-after; tickets = here.tickets; store = store-after }) =
      (refl, subst (λ (n : ℕ). IsUnsettled n here.board here.store board-after store-after) same left) in
      on_err result turned

  -- a milestone
  pub unput : {A : Type 0} (cap document revision : ℕ) (result : Result A Refusal) (here : Between D disk) (store-after : Store D disk)
      → IfErr result (λ e. (e ≡ NoMemory) ⊎ (e ≡ Fault)) → (has_failed store-after ≡ true ↔ IsErrOf result Fault)
      → (IsErrOf result NoMemory → IsLeftByMemory (PutsMilestone document revision) here.store store-after)
      → OnErr result (IsUnanswered cap here (Milestone document revision) (record here { store = store-after }))
  unput cap document revision (Ok answer) here store-after only fails left = tt
  unput cap document revision (Err e) here store-after (inl memory) fails left = (refl, refl, λ works. left (ap (λ (r : Refusal). Err r) memory))
  unput cap document revision (Err e) here store-after (inr fault) fails left =
      (refl, refl, λ works. absurd (false≢true (sym works ∙ fails.1 (ap (λ (r : Refusal). Err r) fault))))

  -- a retirement
  pub unretired : {A : Type 0} (cap : ℕ) (result : Result A Refusal) (here : Between D disk) (store-after : Store D disk)
      → IfErr result (λ e. e ≡ Fault) → (has_failed store-after ≡ true ↔ IsErrOf result Fault) → OnErr result (IsUnanswered cap here Retire (record here { store = store-after }))
  unretired cap (Ok answer) here store-after only fails = tt
  unretired cap (Err e) here store-after fault fails = (refl, refl, fails.1 (ap (λ (r : Refusal). Err r) fault))

  -- nothing is settled by it
  turn_settled : (cap : ℕ) (board board-after : Outer) (store store-after : Store D disk) → IsUnsettled cap board store board-after store-after
      → board-after.progress.settled ≡ board.progress.settled
  turn_settled cap board board-after store store-after (inl same) = ap (λ (b : Outer). b.progress.settled) same.0
  turn_settled cap board board-after store store-after (inr (count, longest, some, took)) = ap (λ (b : Outer). b.progress.settled) took

  pub unanswered_settled : (cap : ℕ) (here after : Between D disk) (call : Call) → IsUnanswered cap here call after → after.board.progress.settled ≡ here.board.progress.settled
  unanswered_settled cap here after (Submit command) left = ap (λ (b : Between D disk). b.board.progress.settled) left
  unanswered_settled cap here after Turn left = turn_settled cap here.board after.board here.store after.store left.1
  unanswered_settled cap here after (Ack at) left = absurd left
  unanswered_settled cap here after (Milestone document revision) left = ap (λ (b : Outer). b.progress.settled) left.0
  unanswered_settled cap here after Retire left = ap (λ (b : Outer). b.progress.settled) left.0

-- the call behind those that are answered
pub call_behind : {X : Type 0} (calls : List Call) (at : ℕ) (answers : List X) (call d : Call) → at < length calls → call ≡ get_or calls at d → length answers ≡ at
    → slice_get calls (length answers) ≡ Some call
call_behind calls at answers call d inside is same = ap (slice_get calls) same ∙ slice_get-get_or calls at d inside ∙ ap Some (sym is)

-- a run that has a command is one batch more
pub with_some : (told : List (List Taken)) (run : List Taken) → 0 < length run → with_run told run ≡ told ++ run ∷ []
with_some told [] some = absurd (omega (arith, some))
with_some told (first ∷ others) some = refl

-- a turn of a run that was taken off and settled
pub turned_by : (old taken after : Outer) (count : ℕ) (run : List Taken) (token : List (List Taken)) → taken ≡ record old { progress = taken_more old.progress count }
    → after ≡ record taken { progress = settled_more taken.progress count; told = token } → run ≡ takens (next_run old.progress count) → 0 < length run → token ≡ old.told ++ run ∷ [] → after ≡ turned old count
turned_by old taken after count run token took settled is some tells =
    settled ∙ ap (λ (b : Outer). record b { progress = settled_more b.progress count; told = token }) took
    ∙ ap (λ (t : List (List Taken)). record old { progress = settled_more (taken_more old.progress count) count; told = t })
    (tells ∙ sym (with_some old.told run some) ∙ ap (with_run old.told) is)

-- a turn of no command at all
pub turned_not : (old after : Outer) (count : ℕ) → after ≡ record old { progress = taken_more old.progress count } → count ≡ 0 → after ≡ turned old count
turned_not old after count took none =
    let settled : old.progress.settled ≡ old.progress.settled + 0 = omega arith in
    took ∙ ap (λ (n : ℕ). record old { progress = taken_more old.progress n }) none
    ∙ ap (λ (n : ℕ). record old { progress = record old.progress { taken = old.progress.taken + 0; settled = n } }) settled
    ∙ sym (ap (turned old) none)

-- a refusal that is handed on
pub handed_on : {T : Type 0} (P : Refusal → Type 0) (r : Result T Refusal) (e f : Refusal) → r ≡ Err e → e ≡ f → P f → IfErr r P
handed_on P r e f was from p = subst (λ o. IfErr o P) (sym was) (subst P (sym from) p)

-- each of these is neither out of memory nor a publish that is refused
not_full : (refusal : Refusal) → refusal ≡ JournalFull → refusal ≢ NoMemory
not_full refusal is memory = cc

not_needed : (refusal : Refusal) → refusal ≡ StillNeeded → refusal ≢ NoMemory
not_needed refusal is memory = cc

module _ {D L : Type 0} {disk : Ghosts D} where
  -- Why a turn is refused whose write is: by the run that was held.
  pub turn_refused : (cap : ℕ) (board : Outer) (store : Store D disk) (held new : Flusher D L disk) (run : List Taken) (refusal : Refusal) → waiting_of held ≡ run ∷ [] → store_of held ≡ store
      → run ≡ takens (next_run board.progress (length run)) → IsLongest cap (untaken board.progress) (length run) → 1 ≤ length run
      → IsUnpublished refusal held new → IsWriteRefused refusal held new
      → ((refusal ≡ NoMemory) ⊎ (refusal ≡ Fault)) ⊎ IsTurnRefused cap board store refusal new
  turn_refused cap board store held new run refusal waits same is longest some left why = by_case why.only
    where
      no_room : HasNoRoom held → has_room store (takens (next_run board.progress (length run))) ≡ false
      no_room full =
          ap (has_room store) (sym is) ∙ ap (λ (s : Store D disk). has_room s run) (sym same)
          ∙ ap (has_room (store_of held)) (same_batch (waiting_of held) run full.0 waits full.1) ∙ full.2

      used_up : (refusal ≡ JournalFull) ⊎ (refusal ≡ StillNeeded) → IsUsedUp store
      used_up told = subst (λ (s : Store D disk). IsUsedUp s) same (why.used_up told)

      still : refusal ≢ NoMemory → state_of (store_of new) ≡ state_of store
      still other = (left.still other).state ∙ ap state_of same

      by_case : IsOneOf refusal (JournalFull ∷ StillNeeded ∷ NoMemory ∷ Fault ∷ [])
          → ((refusal ≡ NoMemory) ⊎ (refusal ≡ Fault)) ⊎ IsTurnRefused cap board store refusal new
      by_case (inl is_full) =
          inr (
            length run,
            longest,
            some,
            record {
              why = inl is_full;
              no_room = no_room (why.full is_full).0;
              last = used_up (inl is_full);
              state = still (not_full refusal is_full);
            },
          )
      by_case (inr (inl is_needed)) =
          inr (
            length run,
            longest,
            some,
            record {
              why = inr is_needed;
              no_room = no_room (why.needed is_needed).0;
              last = used_up (inr is_needed);
              state = still (not_needed refusal is_needed);
            },
          )
      by_case (inr (inr known)) = inl known

module _ {D L : Type 0} {disk : Ghosts D} where
  -- where a call was refused that isn't an answer
  pub stops_there : (cap : ℕ) (start here : Between D disk) (calls : List Call) (at : ℕ) (answers : List (Answer D L)) (call d : Call) (refusal : Refusal) (after : Flusher D L disk) → at < length calls
      → call ≡ get_or calls at d → length answers ≡ at → Answered cap start (take (length answers) calls) answers here
      → ((refusal ≡ NoMemory) ⊎ (refusal ≡ Fault)) ⊎ ((call ≡ Turn) × IsTurnRefused cap here.board here.store refusal after) → Stops cap start calls answers refusal after
  stops_there cap start here calls at answers call d refusal after inside is same answered (inl known) = inl known
  stops_there cap start here calls at answers call d refusal after inside is same answered (inr turns) = inr (record {
    last = here;
    answered = answered;
    turns = ap (slice_get calls) same ∙ slice_get-get_or calls at d inside ∙ ap Some (sym is ∙ turns.0);
    refused = turns.1;
  })

module _ {D L : Type 0} {disk : Ghosts D} where
  -- a turn that is refused as the state of its store says is so by the start's
  pub stops_turn : (cap other : ℕ) (board : Outer) (store : Store D disk) (call : Call) (refusal : Refusal) (after : Flusher D L disk) → call ≡ Turn → cap ≡ other
      → ((refusal ≡ NoMemory) ⊎ (refusal ≡ Fault)) ⊎ IsTurnRefused cap board store refusal after
      → ((refusal ≡ NoMemory) ⊎ (refusal ≡ Fault)) ⊎ ((call ≡ Turn) × IsTurnRefused other board store refusal after)
  stops_turn cap other board store call refusal after is same (inl known) = inl known
  stops_turn cap other board store call refusal after is same (inr why) = inr (is, subst (λ (n : ℕ). IsTurnRefused n board store refusal after) same why)
