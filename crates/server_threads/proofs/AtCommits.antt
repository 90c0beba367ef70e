-- The moments at which the commits of a life had ended, and what was kept from each on.
use Rattle.std.proofs.Common.{◌≡◌, List, [], ◌∷◌, ◌++◌, length, refl, sym, ◌∙◌, ap, subst, arith, append_assoc}
use Rattle.std.proofs.Math.Logic.{∥∥₁_map}
use mathlib.Core.List.{IsPrefix}
use Rattle.disk.specs.declared.device.Disk.{Ghosts}
use Rattle.revision.specs.Command.{Taken}
use Rattle.revision.specs.State.{State, fold}
use Rattle.recovery.specs.declared.store.Store.{Store}
use Rattle.recovery.specs.Found.{commands_of}
use Rattle.recovery.specs.Goes.{Goes}
use Rattle.recovery.specs.Moment.{Moment}
use Rattle.recovery.specs.Open.{state_of}
use Rattle.recovery.proofs.CallerLemmas.{goes_none, found_as, found_open}
use Rattle.flusher.specs.declared.flusher.Flusher.{Flusher}
use Rattle.flusher.specs.Batches.{IsBeginning}
use Rattle.flusher.specs.Holding.{LastsSince, store_of, told_of, committed_of, waiting_of, moments_of, opened_of}
use Rattle.flusher.specs.Lasting.{EachLasts, Surely}
use Rattle.flusher.proofs.CallerLemmas.{lasting_of}
use Rattle.turns.specs.Writing.{WasAt}
use Rattle.server_threads.specs.Served.{AreLasting, IsAtMoment, IsStarted}

-- a list that isn't empty has a last item
last_of : {A : Type 0} (x : A) (xs : List A) → (front : List A) × (last : A) × (x ∷ xs ≡ front ++ last ∷ []) × (length front ≡ length xs)
last_of x [] = ([], x, refl, refl)
last_of {A} x (y ∷ ys) =
    let rest = last_of y ys in
    (x ∷ rest.0, rest.1, ap (λ (l : List A). x ∷ l) rest.2, omega (arith, rest.3))

module _ {D : Type 0} {disk : Ghosts D} where
  -- For any prefix of the batches that last the store held what they make, at the moment of the last of them, or at the beginning.
  pub was_kept : (written waiting : List (List Taken)) (moments : List Moment) (old new : Store D disk) → Goes (IsBeginning 0 (state_of old) (written ++ waiting)) old new
      → EachLasts (state_of old) old (written ++ waiting) new [] written moments → (first : List (List Taken)) → IsPrefix first written
      → (was : WasAt (state_of old) 0 first (written ++ waiting) old new) × IsAtMoment moments first old was.between
  was_kept written waiting moments old new goes each [] begins = (
    record {
      between = old;
      state = refl;
      works = λ works. works;
      before = goes_none old (λ is_open. record { first = []; more = written ++ waiting; whole = refl; enough = omega arith; found = found_as _ _ (found_open old is_open) });
      behind = goes;
    },
    refl,
  )
  was_kept written waiting moments old new goes each (batch ∷ others) begins =
      let split = last_of batch others in
      let whole : split.0 ++ split.1 ∷ begins.0 ≡ written =
      sym (append_assoc split.0 (split.1 ∷ []) begins.0) ∙ ap (λ (l : List (List Taken)). l ++ begins.0) (sym split.2) ∙ begins.1 in
      let found = lasting_of (state_of old) old (written ++ waiting) new [] split.0 split.1 begins.0 moments
      (subst (λ (l : List (List Taken)). EachLasts (state_of old) old (written ++ waiting) new [] l moments) (sym whole) each) in
      let lasting = found.5 in (
        record {
          between = lasting.at;
          state = lasting.state ∙ ap (λ (l : List (List Taken)). fold (state_of old) (commands_of l)) (sym split.2);
          works = λ works. lasting.works;
          before = lasting.before;
          behind = subst (λ (l : List (List Taken)). Goes (IsBeginning (length (commands_of l)) (state_of old) (written ++ waiting)) lasting.at new) (sym split.2) lasting.behind;
        },
        (found.0, found.2, found.3 ∙ ap (λ (m : Moment). found.0 ++ m ∷ found.2) lasting.is, found.4 ∙ split.3),
      )

  -- nothing was written
  pub none_kept : (store : Store D disk) → Surely (AreLasting [] [] [] store store)
  none_kept store = ∣ record { timed = tt; each = tt } ∣₁

module _ {D L : Type 0} {disk : Ghosts D} where
  -- what lasts of a flusher that was just started lasts from what its store held then
  pub all_kept : (start : State) (old new : Flusher D L disk) → IsStarted old → state_of (store_of old) ≡ start → opened_of new ≡ opened_of old
      → Surely (LastsSince start (opened_of new) new) → Surely (AreLasting (told_of new ++ committed_of new) (waiting_of new) (moments_of new) (store_of old) (store_of new))
  all_kept start old new started same opened lasts = ∥∥₁_map lasts kept
    where
      kept : LastsSince start (opened_of new) new → AreLasting (told_of new ++ committed_of new) (waiting_of new) (moments_of new) (store_of old) (store_of new)
      kept since =
          let moved : LastsSince (state_of (store_of old)) (store_of old) new =
          subst (λ (s : State). LastsSince s (store_of old) new) (sym same) (subst (λ (o : Store D disk). LastsSince start o new) (opened ∙ started.opened) since) in
          record {
            timed = moved.timed;
            each = subst (λ (l : List (List Taken)). EachLasts (state_of (store_of old)) (store_of old) l (store_of new) [] (told_of new ++ committed_of new) (moments_of new))
                (sym (append_assoc (told_of new) (committed_of new) (waiting_of new))) moved.each;
          }
