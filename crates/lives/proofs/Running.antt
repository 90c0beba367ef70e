-- How a thread's run continues from one calm moment to the next.
use Rattle.std.proofs.Common.{◌≡◌, ◌≤◌, inl, false, List, [], ◌++◌, length, refl, sym, ◌∙◌, ap, subst, arith, append_assoc, append-nil}
use Rattle.disk.specs.declared.device.Disk.{Ghosts}
use Rattle.revision.specs.Command.{Taken}
use Rattle.revision.specs.State.{State}
use Rattle.world.specs.World.{takens}
use Rattle.recovery.specs.Found.{commands_of}
use Rattle.recovery.specs.Open.{IsWithOrWithout, state_of, has_failed}
use Rattle.recovery.specs.Goes.{Goes}
use Rattle.recovery.proofs.CallerLemmas.{goes_none, goes_map, goes_on, found_now, found_as, found_open}
use Rattle.flusher.specs.Batches.{IsBeginning, AreParts}
use Rattle.flusher.specs.Standing.{Standing, IsEven, IsCalm}
use Rattle.flusher.proofs.CallerLemmas.{fewer, longer, these, within_write}
use Rattle.lives.specs.Run.{batches_of, RunGoes}
use Rattle.lives.proofs.Evens.{told_length, takens_length}

module _ {D : Type 0} {disk : Ghosts D} where
  -- at a calm moment no fewer commands are published than are settled
  pub settled_told : (start : State) (here : Standing D disk) → IsCalm start here → here.board.settled ≤ length (commands_of here.told)
  settled_told start here calm =
      let even = calm.even in
      omega (
        arith,
        told_length (takens here.board.order) here.board.settled here.board.taken even.settled
            (omega (arith, even.taken, takens_length here.board.order)) here.told (here.committed ++ here.waiting) even.parts,
      )

  -- nothing is left to publish
  pub calm_parts : (start : State) (here : Standing D disk) → IsCalm start here → AreParts (takens here.board.order) here.board.settled here.board.taken here.told []
  calm_parts start here calm =
      subst (λ (rest : List (List Taken)). AreParts (takens here.board.order) here.board.settled here.board.taken here.told rest)
      (ap (λ (l : List (List Taken)). l ++ here.waiting) calm.committed ∙ calm.waiting) calm.even.parts

  pub calm_batches : (start : State) (here : Standing D disk) → IsCalm start here → batches_of here ≡ here.told
  calm_batches start here calm = ap (λ (l : List (List Taken)). here.told ++ l) (ap (λ (l : List (List Taken)). l ++ here.waiting) calm.committed ∙ calm.waiting) ∙ append-nil here.told

  -- a step: a write of some batches, or none, behind a calm moment
  pub run_step : (start : State) (old new : Standing D disk) (l : List (List Taken)) → IsCalm start old → IsEven new → batches_of new ≡ old.told ++ l → new.board.settled ≡ old.board.settled
      → Goes (IsWithOrWithout (state_of old.store) (commands_of l)) old.store new.store → RunGoes start old new
  run_step start old new l calm even same settled goes =
      let enough = settled_told start old calm in
      let mapped : Goes (IsBeginning old.board.settled start (batches_of new)) old.store new.store =
      goes_map (λ content found. within_write old.board.settled start (state_of old.store) (batches_of new) old.told l content same enough calm.state found) goes in
      record {
        even = even;
        settled = omega (arith, settled);
        more = (l, same);
        goes = mapped;
        lasts = λ works is_open content left.
            fewer old.board.settled new.board.settled start (batches_of new) content (omega (arith, settled)) ((mapped.any_moment works is_open).last content left);
      }

  -- the same where the write was good, and what was written is settled
  pub run_settled_step : (start : State) (old new : Standing D disk) (l : List (List Taken)) → IsCalm start old → IsCalm start new → new.told ≡ old.told ++ l → old.board.settled ≤ new.board.settled
      → has_failed new.store ≡ false
      → Goes (IsWithOrWithout (state_of old.store) (commands_of l)) old.store new.store → RunGoes start old new
  run_settled_step start old new l calm after same settled works goes =
      let enough = settled_told start old calm in
      let whole = calm_batches start new after in
      let mapped : Goes (IsBeginning old.board.settled start (batches_of new)) old.store new.store =
      goes_map (λ content found. within_write old.board.settled start (state_of old.store) (batches_of new) old.told l content (whole ∙ same) enough calm.state found) goes in
      record {
        even = after.even;
        settled = settled;
        more = (l, whole ∙ same);
        goes = mapped;
        lasts = λ worked is_open content left.
            these new.board.settled start (state_of new.store) (batches_of new) new.told [] content (whole ∙ sym (append-nil new.told)) (settled_told start new after) after.state
            (found_now new.store (goes.opens works is_open) content left);
      }

  -- one part of a run after another, where the moment between is calm and the store works there
  pub run_on : (start : State) (old mid new : Standing D disk) → RunGoes start old mid → IsCalm start mid → has_failed mid.store ≡ false → RunGoes start mid new → RunGoes start old new
  run_on start old mid new first calm works second =
      let more = second.more in
      let whole : batches_of new ≡ batches_of mid ++ more.0 = more.1 ∙ ap (λ (l : List (List Taken)). l ++ more.0) (sym (calm_batches start mid calm)) in
      record {
        even = second.even;
        settled = omega (arith, first.settled, second.settled);
        more = (
          first.more.0 ++ more.0,
          whole ∙ ap (λ (l : List (List Taken)). l ++ more.0) first.more.1 ∙ append_assoc old.told first.more.0 more.0,
        );
        goes = goes_on
            (goes_map (λ content found. longer old.board.settled start (batches_of mid) (batches_of new) more.0 content whole found) first.goes)
            (goes_map (λ content found. fewer mid.board.settled old.board.settled start (batches_of new) content first.settled found) second.goes);
        lasts = λ worked is_open content left. second.lasts works (first.goes.opens works is_open) content left;
      }

  -- no step at all
  pub run_none : (start : State) (here : Standing D disk) → IsCalm start here → RunGoes start here here
  run_none start here calm =
      run_step start here here [] calm calm.even (calm_batches start here calm ∙ sym (append-nil here.told)) refl (goes_none here.store (λ is_open. inl (found_as _ _ (found_open here.store is_open))))
