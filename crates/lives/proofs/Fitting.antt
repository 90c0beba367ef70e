-- The run that a turn takes off: it fits a slot, and it may be settled once it is published.
use Rattle.std.proofs.Common.{◌≡◌, ◌≤◌, ◌<◌, ◌⊎◌, inl, inr, ℕ, ◌+◌, true, List, [], ◌∷◌, ◌++◌, length, take, drop, sym, ◌∙◌, ap, subst, arith, append-nil, length-append, length-drop}
use Rattle.std.specs.Prelude.{◌==◌, nat_lt, nat_le, ◌&&◌}
use Rattle.std.proofs.lemmas.List.{take-map}
use Rattle.std.proofs.lemmas.Bool.Decides.{nat_tests}
use Rattle.disk.specs.declared.device.Disk.{Ghosts}
use Rattle.revision.specs.Command.{Taken}
use Rattle.revision.specs.State.{State}
use Rattle.journal.specs.BatchSpelling.{batch_width}
use Rattle.world.specs.Progress.{Progress, next_run, taken_more}
use Rattle.world.specs.World.{Entry, takens}
use Rattle.recovery.specs.Found.{commands_of}
use Rattle.recovery.specs.declared.store.Store.{Store}
use Rattle.recovery.specs.Open.{IsWithOrWithout, state_of}
use Rattle.recovery.specs.Goes.{Goes}
use Rattle.hub.specs.Runs.{IsLongest, untaken, MaySettle}
use Rattle.flusher.specs.Flushers.{IsCommittedTo, IsHeldCommitted, cap_of}
use Rattle.flusher.specs.Standing.{Standing, IsCalm}
use Rattle.flusher.proofs.CallerLemmas.{commands-append}
use Rattle.lives.specs.Driving.{IsRunCommitted}
use Rattle.lives.proofs.Evens.{told_length, all_settled, takens_length}
use Rattle.lives.proofs.Steps.{calm_stands}

-- the run that was taken off fits the cap
pub run_fits : (state : State) (board : Progress Entry) (run : List Taken) → run ≡ takens (next_run board (length run)) → IsLongest (cap_of state) (untaken board) (length run)
    → 0 < length run → batch_width run ≤ cap_of state
run_fits state board run is longest some = by_case longest.fits
  where
    by_case : (length run ≡ 0) ⊎ (batch_width (take (length run) (untaken board)) ≤ cap_of state) → batch_width run ≤ cap_of state
    by_case (inl none) = absurd (omega (arith, none, some))
    by_case (inr le) =
        let same : take (length run) (untaken board) ≡ run = take-map (λ (e : Entry). e.taken) (length run) (drop board.taken board.order) ∙ sym is in
        subst (λ (b : List Taken). batch_width b ≤ cap_of state) same le

-- and lies in the order
pub run_within : (cap : ℕ) (board : Progress Entry) (count : ℕ) → board.taken ≤ length board.order → IsLongest cap (untaken board) count → board.taken + count ≤ length board.order
run_within cap board count within longest =
    omega (arith, longest.within, takens_length (drop board.taken board.order), length-drop {A = Entry} board.taken board.order)

settles : (settled taken n told : ℕ) → settled ≡ taken → told ≡ settled + n → 0 < n → nat_lt 0 n && nat_le (settled + n) (taken + n) && (told == settled + n) ≡ true
settles settled taken n told same is some = grind (arith, nat_tests)

module _ {D : Type 0} {disk : Ghosts D} where
  -- what was published of it may be settled
  pub may_settle : (start : State) (here : Standing D disk) (board : Progress Entry) (run receipt : List Taken) (token : List (List Taken)) → IsCalm start here
      → run ≡ takens (next_run here.board (length run)) → board ≡ taken_more here.board (length run) → 0 < length run → receipt ≡ run → token ≡ here.told ++ run ∷ []
      → MaySettle board receipt (length (commands_of token))
  may_settle start here board run receipt token calm is boards some same tells =
      let stands = calm_stands start here calm in
      let bound : here.board.taken ≤ length (takens here.board.order) = omega (arith, stands.taken, takens_length here.board.order) in
      let even = all_settled (takens here.board.order) here.board.settled here.board.taken stands.settled bound here.told stands.parts in
      let known = told_length (takens here.board.order) here.board.settled here.board.taken stands.settled bound here.told [] stands.parts in
      let long : length (commands_of token) ≡ here.board.settled + length run =
      omega (arith, known, ap (λ (t : List (List Taken)). length (commands_of t)) tells, ap length (commands-append here.told (run ∷ [])), length-append (commands_of here.told) (run ++ []), ap length (append-nil run)) in
      let next : run ≡ takens (take (length run) (drop here.board.settled here.board.order)) =
      is ∙ ap (λ (n : ℕ). takens (take (length run) (drop n here.board.order))) (sym even) in
      let here_may : MaySettle (taken_more here.board (length run)) run (length (commands_of token)) = record {
        next = next;
        count = settles here.board.settled here.board.taken (length run) (length (commands_of token)) even long some;
      } in
      subst (λ (b : Progress Entry). MaySettle b receipt (length (commands_of token))) (sym boards)
      (subst (λ (r : List Taken). MaySettle (taken_more here.board (length run)) r (length (commands_of token))) (sym same) here_may)

  -- a run that is taken off continues what is published
  pub goes_next : (start : State) (here : Standing D disk) (place : ℕ) → IsCalm start here → place ≡ here.board.taken → place ≡ length (commands_of here.told)
  goes_next start here place calm is =
      let stands = calm_stands start here calm in
      let bound : here.board.taken ≤ length (takens here.board.order) = omega (arith, stands.taken, takens_length here.board.order) in
      let even = all_settled (takens here.board.order) here.board.settled here.board.taken stands.settled bound here.told stands.parts in
      let known = told_length (takens here.board.order) here.board.settled here.board.taken stands.settled bound here.told [] stands.parts in
      omega (arith, is, even, known)

  -- what goes from the store that held a run goes from the store before
  pub goes_held : (old mid new : Store D disk) (batches : List (List Taken)) (run : List Taken) → mid ≡ old → batches ≡ run ∷ [] → Goes (IsWithOrWithout (state_of mid) (commands_of batches)) mid new
      → Goes (IsWithOrWithout (state_of old) run) old new
  goes_held old mid new batches run same is goes =
      subst (λ (c : List Taken). Goes (IsWithOrWithout (state_of old) c) old new) (ap commands_of is ∙ append-nil run)
      (subst (λ (s : Store D disk). Goes (IsWithOrWithout (state_of s) (commands_of batches)) s new) same goes)

module _ {D : Type 0} {disk : Ghosts D} (old new : Store D disk) where
  run_of : (run : List Taken) → 0 < length run → IsCommittedTo run old new → IsRunCommitted run old new
  run_of [] some done = absurd (let none : ⊥ = omega arith in none)
  run_of (first ∷ others) some done = done

  pub run_committed : (run : List Taken) (batches : List (List Taken)) → batches ≡ run ∷ [] → 0 < length run → IsHeldCommitted batches old new → IsRunCommitted run old new
  run_committed run batches is some done = run_of run some (subst (λ (l : List (List Taken)). IsHeldCommitted l old new) is done)
