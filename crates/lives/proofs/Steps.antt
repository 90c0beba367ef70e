-- The steps of a thread's run: what each does to a calm moment.
use Rattle.std.proofs.Common.{◌≡◌, ◌≤◌, inl, ℕ, ◌+◌, false, List, [], ◌∷◌, ◌++◌, length, refl, sym, ◌∙◌, ap, subst, arith, append-nil, length-append}
use Rattle.std.proofs.lemmas.List.{map-append}
use Rattle.disk.specs.declared.device.Disk.{Ghosts}
use Rattle.revision.specs.Command.{Taken, Command}
use Rattle.revision.specs.State.{State, fold}
use Rattle.revision.specs.Acceptance.{Answer, Takes, Repeats, Refuses, answer}
use Rattle.world.specs.Progress.{Progress, submitted, submitted_by, next_run, taken_more, settled_more}
use Rattle.world.specs.World.{Entry, entry_of, takens}
use Rattle.recovery.specs.declared.store.Store.{Store}
use Rattle.recovery.specs.Found.{commands_of, FoundAs}
use Rattle.recovery.specs.Open.{IsWithOrWithout, state_of, has_failed}
use Rattle.recovery.specs.Goes.{Goes}
use Rattle.recovery.proofs.CallerLemmas.{goes_none, goes_map, found_as, found_open}
use Rattle.flusher.specs.Batches.{AreParts}
use Rattle.flusher.specs.Standing.{Standing, IsEven, IsCalm}
use Rattle.lives.specs.Run.{RunGoes}
use Rattle.lives.proofs.Evens.{parts_longer, parts_taken, parts_settled, run_taken, takens_length}
use Rattle.lives.proofs.Running.{calm_parts, calm_batches, run_step, run_settled_step}

-- a board's counts lie in its order, and its order as far as it is taken off is these batches
pub record Stands (board : Progress Entry) (told rest : List (List Taken)) : Type 0 where
  pub settled : board.settled ≤ board.taken
  pub taken : board.taken ≤ length board.order
  pub parts : AreParts (takens board.order) board.settled board.taken told rest

-- a command that is submitted, by its answer
stands_by : (entry : Taken → Entry) (board : Progress Entry) (told rest : List (List Taken)) (due : Answer) → Stands board told rest → Stands (submitted_by entry board due) told rest
stands_by entry board told rest (Takes taken) is =
    let longer : takens (board.order ++ entry taken ∷ []) ≡ takens board.order ++ takens (entry taken ∷ []) = map-append (λ (e : Entry). e.taken) board.order (entry taken ∷ []) in
    record {
      settled = is.settled;
      taken = omega (arith, is.taken, length-append board.order (entry taken ∷ []));
      parts = subst (λ (o : List Taken). AreParts o board.settled board.taken told rest) (sym longer)
          (parts_longer (takens board.order) board.settled board.taken is.settled (omega (arith, is.taken, takens_length board.order)) (takens (entry taken ∷ [])) told rest is.parts);
    }
stands_by entry board told rest (Repeats revision) is = is
stands_by entry board told rest (Refuses refusal) is = is

pub settled_by : (entry : Taken → Entry) (board : Progress Entry) (due : Answer) → (submitted_by entry board due).settled ≡ board.settled
settled_by entry board (Takes taken) = refl
settled_by entry board (Repeats revision) = refl
settled_by entry board (Refuses refusal) = refl

module _ {D : Type 0} {disk : Ghosts D} where
  pub even_of : (board : Progress Entry) (known told committed waiting : List (List Taken)) (store : Store D disk) → Stands board told (committed ++ waiting)
      → IsEven (record { board = board; known = known; told = told; committed = committed; waiting = waiting; store = store })
  even_of board known told committed waiting store is = record { settled = is.settled; taken = is.taken; parts = is.parts }

  -- a calm moment, by its parts
  pub calm_of : (start : State) (board : Progress Entry) (known told committed waiting : List (List Taken)) (store : Store D disk) → Stands board told [] → known ≡ told → committed ≡ [] → waiting ≡ []
      → state_of store ≡ fold start (commands_of told)
      → IsCalm start (record { board = board; known = known; told = told; committed = committed; waiting = waiting; store = store })
  calm_of start board known told committed waiting store is knows none nothing state = record {
    even = even_of board known told committed waiting store
        (subst (λ (rest : List (List Taken)). Stands board told rest) (sym (ap (λ (l : List (List Taken)). l ++ waiting) none ∙ nothing)) is);
    known = knows;
    committed = none;
    waiting = nothing;
    state = state;
  }

  pub calm_stands : (start : State) (here : Standing D disk) → IsCalm start here → Stands here.board here.told []
  calm_stands start here calm = record { settled = calm.even.settled; taken = calm.even.taken; parts = calm_parts start here calm }

  -- the board alone changes, and what is settled doesn't
  pub run_board : (start : State) (here : Standing D disk) (board : Progress Entry) (known : List (List Taken)) → IsCalm start here → Stands board here.told [] → board.settled ≡ here.board.settled
      → known ≡ here.known
      → IsCalm start (record here { board = board; known = known }) × RunGoes start here (record here { board = board; known = known })
  run_board start here board known calm is settled knows =
      let after = calm_of start board known here.told here.committed here.waiting here.store is (knows ∙ calm.known) calm.committed calm.waiting calm.state in (
        after,
        run_step start here (record here { board = board; known = known }) [] calm after.even (calm_batches start here calm ∙ sym (append-nil here.told)) settled
            (goes_none here.store (λ is_open. inl (found_as _ _ (found_open here.store is_open)))),
      )

  -- a command is submitted
  pub run_submitted : (start : State) (here : Standing D disk) (board : Progress Entry) (known : List (List Taken)) (command : Command) → IsCalm start here
      → board ≡ submitted (entry_of command) here.board command → known ≡ here.known
      → IsCalm start (record here { board = board; known = known }) × RunGoes start here (record here { board = board; known = known })
  run_submitted start here board known command calm is knows =
      let due = answer here.board.state command in
      run_board start here board known calm
      (subst (λ (b : Progress Entry). Stands b here.told []) (sym is) (stands_by (entry_of command) here.board here.told [] due (calm_stands start here calm)))
      (ap (λ (b : Progress Entry). b.settled) is ∙ settled_by (entry_of command) here.board due) knows

  -- the store alone changes, and a crash leaves no other state
  pub run_store : (start : State) (here : Standing D disk) (store : Store D disk) → IsCalm start here → state_of store ≡ state_of here.store
      → Goes (λ content. FoundAs content (state_of here.store)) here.store store
      → IsCalm start (record here { store = store }) × RunGoes start here (record here { store = store })
  run_store start here store calm same goes =
      let after = calm_of start here.board here.known here.told here.committed here.waiting store (calm_stands start here calm) calm.known calm.committed calm.waiting (same ∙ calm.state) in (
        after,
        run_step start here (record here { store = store }) [] calm after.even (calm_batches start here calm ∙ sym (append-nil here.told)) refl
            (goes_map (λ content found. inl found) goes),
      )

  -- A turn that was refused: the run is taken off, and is committed or not.
  pub run_refused : (start : State) (here : Standing D disk) (board : Progress Entry) (known committed waiting : List (List Taken)) (store : Store D disk) (run : List Taken) → IsCalm start here
      → run ≡ takens (next_run here.board (length run)) → here.board.taken + length run ≤ length here.board.order → board ≡ taken_more here.board (length run) → committed ++ waiting ≡ run ∷ []
      → Goes (IsWithOrWithout (state_of here.store) run) here.store store
      → RunGoes start here (record { board = board; known = known; told = here.told; committed = committed; waiting = waiting; store = store })
  run_refused start here board known committed waiting store run calm is within boards held goes =
      let stands = calm_stands start here calm in
      let count = length run in
      let parts = parts_taken (takens here.board.order) here.board.settled here.board.taken stands.settled (omega (arith, stands.taken, takens_length here.board.order)) run count here.told
      (is ∙ run_taken here.board.order here.board.taken count) stands.parts in
      let later : Stands (taken_more here.board count) here.told (run ∷ []) = record { settled = omega (arith, stands.settled); taken = within; parts = parts } in
      let even = even_of board known here.told committed waiting store
      (subst (λ (b : Progress Entry). Stands b here.told (committed ++ waiting)) (sym boards) (subst (λ (rest : List (List Taken)). Stands (taken_more here.board count) here.told rest) (sym held) later)) in
      run_step start here (record { board = board; known = known; told = here.told; committed = committed; waiting = waiting; store = store }) (run ∷ []) calm even
      (ap (λ (l : List (List Taken)). here.told ++ l) held) (ap (λ (b : Progress Entry). b.settled) boards)
      (subst (λ (c : List Taken). Goes (IsWithOrWithout (state_of here.store) c) here.store store) (sym (append-nil run)) goes)

  -- the same, where an equation says that what was published is unchanged
  pub run_refused_by : (start : State) (here : Standing D disk) (board : Progress Entry) (known told committed waiting : List (List Taken)) (store : Store D disk) (run : List Taken) → IsCalm start here
      → run ≡ takens (next_run here.board (length run)) → here.board.taken + length run ≤ length here.board.order → board ≡ taken_more here.board (length run) → committed ++ waiting ≡ run ∷ []
      → Goes (IsWithOrWithout (state_of here.store) run) here.store store → told ≡ here.told
      → RunGoes start here (record { board = board; known = known; told = told; committed = committed; waiting = waiting; store = store })
  run_refused_by start here board known told committed waiting store run calm is within boards held goes same =
      subst (λ (t : List (List Taken)). RunGoes start here (record { board = board; known = known; told = t; committed = committed; waiting = waiting; store = store })) (sym same)
      (run_refused start here board known committed waiting store run calm is within boards held goes)

  -- A turn that was good: the run is taken off, committed, published and settled.
  pub run_settled : (start : State) (here : Standing D disk) (board : Progress Entry) (known told committed waiting : List (List Taken)) (store : Store D disk) (run : List Taken) → IsCalm start here
      → run ≡ takens (next_run here.board (length run)) → here.board.taken + length run ≤ length here.board.order
      → board ≡ settled_more (taken_more here.board (length run)) (length run) → known ≡ told → told ≡ here.told ++ run ∷ [] → committed ≡ [] → waiting ≡ []
      → state_of store ≡ fold start (commands_of told) → has_failed store ≡ false
      → Goes (IsWithOrWithout (state_of here.store) run) here.store store
      → IsCalm start (record { board = board; known = known; told = told; committed = committed; waiting = waiting; store = store })
      × RunGoes start here (record { board = board; known = known; told = told; committed = committed; waiting = waiting; store = store })
  run_settled start here board known told committed waiting store run calm is within boards knows tells none nothing state works goes =
      let stands = calm_stands start here calm in
      let count = length run in
      let bound : here.board.taken ≤ length (takens here.board.order) = omega (arith, stands.taken, takens_length here.board.order) in
      let parts = parts_settled (takens here.board.order) here.board.settled here.board.taken stands.settled bound run count here.told
      (is ∙ run_taken here.board.order here.board.taken count) stands.parts in
      let later : Stands (settled_more (taken_more here.board count) count) (here.told ++ run ∷ []) [] = record { settled = omega (arith, stands.settled); taken = within; parts = parts } in
      let there = subst (λ (b : Progress Entry). Stands b told []) (sym boards) (subst (λ (t : List (List Taken)). Stands (settled_more (taken_more here.board count) count) t []) (sym tells) later) in
      let after = calm_of start board known told committed waiting store there knows none nothing state in (
        after,
        run_settled_step start here (record { board = board; known = known; told = told; committed = committed; waiting = waiting; store = store }) (run ∷ []) calm after tells
            (omega (arith, ap (λ (b : Progress Entry). b.settled) boards)) works
            (subst (λ (c : List Taken). Goes (IsWithOrWithout (state_of here.store) c) here.store store) (sym (append-nil run)) goes),
      )

  -- a run of no command at all
  pub run_of_none : (start : State) (here : Standing D disk) (board : Progress Entry) (known : List (List Taken)) → IsCalm start here → board ≡ taken_more here.board 0 → known ≡ here.known
      → IsCalm start (record here { board = board; known = known }) × RunGoes start here (record here { board = board; known = known })
  run_of_none start here board known calm is knows =
      let stands = calm_stands start here calm in
      let same : Stands (taken_more here.board 0) here.told [] = record {
        settled = omega (arith, stands.settled);
        taken = omega (arith, stands.taken);
        parts = subst (λ (n : ℕ). AreParts (takens here.board.order) here.board.settled n here.told []) (omega arith) stands.parts;
      } in
      run_board start here board known calm (subst (λ (b : Progress Entry). Stands b here.told []) (sym is) same) (ap (λ (b : Progress Entry). b.settled) is) knows
