-- What the flusher's thread does, from call to call.
use Rattle.std.proofs.Common.{Some, ◌≡◌, ◌≢◌, ◌↔◌, ◌⊎◌, ◌≤◌, ◌+◌, inl, inr, ℕ, Bool, true, false, List, [], ◌∷◌, ◌++◌, length, refl, sym, ◌∙◌, ap, subst, arith, append_assoc, append-nil, length-append}
use Rattle.std.specs.Prelude.{◌<◌, Result, Ok, Err, IfOk, IfErr, IsErrOf}
use Rattle.std.proofs.lemmas.Bool.{false≢true, cases_lt, false_from_ne_true}
use mathlib.Core.List.{IsPrefix}
use Rattle.disk.specs.declared.device.Disk.{Ghosts}
use Rattle.refusal.specs.Refusal.{IsOneOf}
use Rattle.refusal.specs.declared.Refusal.{Refusal}
use Rattle.refusal.specs.declared.Refusal.TheVariants.{JournalFull, StillNeeded, NoMemory, Fault}
use Rattle.revision.specs.Command.{Taken}
use Rattle.revision.specs.State.{State, fold}
use Rattle.published.specs.Batches.{IsShorter}
use Rattle.published.proofs.CallerLemmas.{prefix_shorter, prefix_whole}
use Rattle.recovery.specs.declared.store.Store.{Store}
use Rattle.recovery.specs.Found.{commands_of, FoundAs}
use Rattle.recovery.specs.Open.{IsWithOrWithout, state_of, has_failed, has_room}
use Rattle.recovery.specs.Goes.{Goes}
use Rattle.recovery.specs.Moment.{Receipt}
use Rattle.recovery.proofs.CallerLemmas.{goes_none, goes_map, goes_on, found_now, found_as, found_open}
use Rattle.flusher.specs.declared.flusher.Flusher.{Flusher}
use Rattle.flusher.specs.Batches.{IsBeginning}
use Rattle.flusher.specs.Holding.{HasNoRoom, store_of, told_of, committed_of, waiting_of, opened_of, given_to}
use Rattle.flusher.specs.Upkeep.{IsKeptUp, KeepsUp}
use Rattle.flusher.specs.Writing.{HasPublished, IsUnpublished, IsWriteRefused, IsFullForGood}
use Rattle.flusher.proofs.CallerLemmas.{commands-append, fewer, longer, no_more, within_write, no_error}
use Rattle.turns.specs.Writing.{WasAt, IsUpkeep, IsFullFor, IsOneMore, IsTurnFailed, told_count, Writes}
use Rattle.turns.specs.Turning.{HasTurned}
use Rattle.turns.specs.declared.turned.Turned.{Turned}
use Rattle.turns.specs.declared.turned.Turned.TheVariants.{Settled, Nothing}
pub use Rattle.flusher.proofs.CallerLemmas.{memory_not_fault, same_refusal}

-- what the store of a flusher holds
abbrev Kept : State → State → List (List Taken) → List (List Taken) → Type 0
Kept start state told committed = state ≡ fold start (commands_of (told ++ committed))

-- a content that represents what is published and committed, or that with the batch that is held
held_found : (start state : State) (told committed waiting : List (List Taken)) (content : List ℕ) → Kept start state told committed
    → IsWithOrWithout state (commands_of waiting) content → IsBeginning (length (commands_of told)) start (told ++ (committed ++ waiting)) content
held_found start state told committed waiting content kept found =
    within_write (length (commands_of told)) start state (told ++ (committed ++ waiting)) (told ++ committed) waiting content (sym (append_assoc told committed waiting)) (no_more told committed) kept found

-- and these have all commands that are published and committed
held_all : (start state : State) (told committed waiting : List (List Taken)) (content : List ℕ) → Kept start state told committed
    → IsWithOrWithout state (commands_of waiting) content → IsBeginning (length (commands_of (told ++ committed))) start (told ++ (committed ++ waiting)) content
held_all start state told committed waiting content kept found =
    within_write (length (commands_of (told ++ committed))) start state (told ++ (committed ++ waiting)) (told ++ committed) waiting content (sym (append_assoc told committed waiting)) (omega arith) kept found

-- a prefix of batches is no longer than they are, and makes no more commands
prefix-length : (first all : List (List Taken)) → IsPrefix first all → (length first ≤ length all) × (length (commands_of first) ≤ length (commands_of all))
prefix-length first all (more, whole) = (
  omega (arith, ap length whole, length-append first more),
  omega (arith, ap (λ (l : List (List Taken)). length (commands_of l)) whole, ap length (commands-append first more), length-append (commands_of first) (commands_of more)),
)

-- none is longer than what was published and begins it
none_longer : (old new first : List (List Taken)) → new ≡ old → IsShorter old first → IsPrefix first new → ⊥
none_longer old new first same longer begins =
    let within = (prefix-length first new begins).0 in
    absurd (omega (arith, longer.1, within, ap length same))

-- of two prefixes of one list one is a prefix of the other
compare : (first mid all : List (List Taken)) → IsPrefix first all → IsPrefix mid all → IsPrefix first mid ⊎ IsShorter mid first
compare first mid all begins also = by_length (cases_lt (length mid) (length first))
  where
    by_length : (length mid < length first) ⊎ (length first ≤ length mid) → IsPrefix first mid ⊎ IsShorter mid first
    by_length (inl less) = inr (prefix_shorter mid first all also begins (omega (arith, less)), less)
    by_length (inr le) = inl (prefix_shorter first mid all begins also le)

module _ {D : Type 0} {disk : Ghosts D} where
  -- more batches came after
  was_longer : {start : State} {least : ℕ} {first batches all : List (List Taken)} {old new : Store D disk} (more : List (List Taken)) → all ≡ batches ++ more
      → WasAt start least first batches old new → WasAt start least first all old new
  was_longer {start} {least} {first} {batches} {all} more whole was = record {
    between = was.between;
    state = was.state;
    works = was.works;
    before = goes_map (λ content found. longer least start batches all more content whole found) was.before;
    behind = goes_map (λ content found. longer (length (commands_of first)) start batches all more content whole found) was.behind;
  }

module _ {D L : Type 0} {disk : Ghosts D} where
  -- some calls, and then others, where the earlier calls didn't fail
  pub writes_on : (start : State) (old mid new : Flusher D L disk) → Writes start old mid → (has_failed (store_of old) ≡ false → has_failed (store_of mid) ≡ false) → Writes start mid new → Writes start old new
  writes_on start old mid new first works second =
      let more = second.more in
      let ends : told_count mid ≡ told_count old + length (commands_of first.told.0) =
      ap (λ (t : List (List Taken)). length (commands_of t)) first.told.1 ∙ ap length (commands-append (told_of old) first.told.0) ∙ length-append (commands_of (told_of old)) (commands_of first.told.0) in
      let least : told_count old ≤ told_count mid = omega (arith, ends) in
      record {
        told = (
          first.told.0 ++ second.told.0,
          second.told.1 ∙ ap (λ (t : List (List Taken)). t ++ second.told.0) first.told.1 ∙ append_assoc (told_of old) first.told.0 second.told.0,
        );
        more = (
          first.more.0 ++ more.0,
          more.1 ∙ ap (λ (b : List (List Taken)). b ++ more.0) first.more.1 ∙ append_assoc (given_to old) first.more.0 more.0,
        );
        goes = goes_on
            (goes_map (λ content found. longer (told_count old) start (given_to mid) (given_to new) more.0 content more.1 found) first.goes)
            (goes_map (λ content found. fewer (told_count mid) (told_count old) start (given_to new) content least found) second.goes);
        held =
            let was = second.held in
            record {
              between = was.between;
              state = was.state;
              works = λ worked. was.works (works worked);
              before = goes_on
                  (goes_map (λ content found. longer (told_count old) start (given_to mid) (given_to new) more.0 content more.1 found) first.goes)
                  (goes_map (λ content found. fewer (told_count mid) (told_count old) start (given_to new) content least found) was.before);
              behind = was.behind;
            };
        lasts = λ worked is_open. second.lasts (works worked) (first.goes.opens (works worked) is_open);
        opened = second.opened ∙ first.opened;
        each = λ front further begins. by_moment front further (compare front (told_of mid) (told_of new) begins (second.told.0, sym second.told.1)) begins;
      }
    where
      least : told_count old ≤ told_count mid
      least = (prefix-length (told_of old) (told_of mid) (first.told.0, sym first.told.1)).1

      -- it was published by the first calls, or by the others
      by_moment : (front : List (List Taken)) → IsShorter (told_of old) front → IsPrefix front (told_of mid) ⊎ IsShorter (told_of mid) front → IsPrefix front (told_of new)
          → WasAt start (told_count old) front (given_to new) (store_of old) (store_of new)
      by_moment front further (inl early) begins =
          let was = was_longer second.more.0 second.more.1 (first.each front further early) in
          let fits = (prefix-length front (told_of mid) early).1 in
          record {
            between = was.between;
            state = was.state;
            works = was.works;
            before = was.before;
            behind = goes_on was.behind
                (goes_map (λ content found. fewer (told_count mid) (length (commands_of front)) start (given_to new) content fits found) second.goes);
          }
      by_moment front further (inr late) begins =
          let was = second.each front late begins in
          record {
            between = was.between;
            state = was.state;
            works = λ worked. was.works (works worked);
            before = goes_on
                (goes_map (λ content found. longer (told_count old) start (given_to mid) (given_to new) second.more.0 content second.more.1 found) first.goes)
                (goes_map (λ content found. fewer (told_count mid) (told_count old) start (given_to new) content least found) was.before);
            behind = was.behind;
          }

  -- what is published and committed was so at the beginning
  was_before : (start : State) (old new : Flusher D L disk) → Kept start (state_of (store_of old)) (told_of old) (committed_of old)
      → Goes (IsWithOrWithout (state_of (store_of old)) (commands_of (waiting_of old))) (store_of old) (store_of new)
      → told_of new ++ committed_of new ≡ told_of old ++ committed_of old → given_to new ≡ given_to old
      → WasAt start (told_count old) (told_of new ++ committed_of new) (given_to new) (store_of old) (store_of new)
  was_before start old new kept goes holds same =
      subst (λ (l : List (List Taken)). WasAt start (told_count old) l (given_to new) (store_of old) (store_of new)) (sym holds)
      (subst (λ (b : List (List Taken)). WasAt start (told_count old) (told_of old ++ committed_of old) b (store_of old) (store_of new)) (sym same)
      (record {
        between = store_of old;
        state = kept;
        works = λ works. works;
        before = goes_none (store_of old) (λ is_open. held_found start (state_of (store_of old)) (told_of old) (committed_of old) (waiting_of old) _ kept
            (inl (found_as _ _ (found_open (store_of old) is_open))));
        behind = goes_map (λ content found. held_all start (state_of (store_of old)) (told_of old) (committed_of old) (waiting_of old) content kept found) goes;
      }))

  -- it is so at the end
  was_after : (start : State) (old new : Flusher D L disk) → Kept start (state_of (store_of old)) (told_of old) (committed_of old)
      → Kept start (state_of (store_of new)) (told_of new) (committed_of new)
      → Goes (IsWithOrWithout (state_of (store_of old)) (commands_of (waiting_of old))) (store_of old) (store_of new)
      → (has_failed (store_of old) ≡ false → has_failed (store_of new) ≡ false) → given_to new ≡ given_to old
      → WasAt start (told_count old) (told_of new ++ committed_of new) (given_to new) (store_of old) (store_of new)
  was_after start old new kept after goes works same = record {
    between = store_of new;
    state = after;
    works = works;
    before = goes_map (λ content found. subst (λ (b : List (List Taken)). IsBeginning (told_count old) start b content) (sym same)
        (held_found start (state_of (store_of old)) (told_of old) (committed_of old) (waiting_of old) content kept found)) goes;
    behind = goes_none (store_of new) (λ is_open. held_all start (state_of (store_of new)) (told_of new) (committed_of new) (waiting_of new) _ after
        (inl (found_as _ _ (found_open (store_of new) is_open))));
  }

  -- what was given is the same, and no more is published
  pub writes_same : (start : State) (old new : Flusher D L disk) → opened_of new ≡ opened_of old → Kept start (state_of (store_of old)) (told_of old) (committed_of old)
      → Goes (IsWithOrWithout (state_of (store_of old)) (commands_of (waiting_of old))) (store_of old) (store_of new)
      → told_of new ≡ told_of old → given_to new ≡ given_to old
      → WasAt start (told_count old) (told_of new ++ committed_of new) (given_to new) (store_of old) (store_of new) → Writes start old new
  writes_same start old new opened kept goes tells same was =
      let mapped : Goes (IsBeginning (told_count old) start (given_to new)) (store_of old) (store_of new) =
      goes_map (λ content found. subst (λ (b : List (List Taken)). IsBeginning (told_count old) start b content) (sym same)
      (held_found start (state_of (store_of old)) (told_of old) (committed_of old) (waiting_of old) content kept found)) goes in
      let count : told_count new ≡ told_count old = ap (λ (t : List (List Taken)). length (commands_of t)) tells in
      record {
        told = ([], tells ∙ sym (append-nil (told_of old)));
        more = ([], same ∙ sym (append-nil (given_to old)));
        goes = mapped;
        opened = opened;
        held = was;
        lasts = λ works is_open content left.
            fewer (told_count old) (told_count new) start (given_to new) content (omega (arith, count)) ((mapped.any_moment works is_open).last content left);
        each = λ first further begins. absurd (none_longer (told_of old) (told_of new) first tells further begins);
      }

  -- the store alone changes, and represents the same state
  pub writes_still : (start : State) (old new : Flusher D L disk) → opened_of new ≡ opened_of old → Kept start (state_of (store_of old)) (told_of old) (committed_of old)
      → Goes (λ content. FoundAs content (state_of (store_of old))) (store_of old) (store_of new)
      → told_of new ≡ told_of old → committed_of new ≡ committed_of old → waiting_of new ≡ waiting_of old → Writes start old new
  writes_still start old new opened kept goes tells commits waits =
      let same : given_to new ≡ given_to old =
      ap (λ (t : List (List Taken)). t ++ (committed_of new ++ waiting_of new)) tells ∙ ap (λ (l : List (List Taken)). told_of old ++ (l ++ waiting_of new)) commits
      ∙ ap (λ (l : List (List Taken)). told_of old ++ (committed_of old ++ l)) waits in
      let written : Goes (IsWithOrWithout (state_of (store_of old)) (commands_of (waiting_of old))) (store_of old) (store_of new) = goes_map (λ content found. inl found) goes in
      let holds : told_of new ++ committed_of new ≡ told_of old ++ committed_of old =
      ap (λ (t : List (List Taken)). t ++ committed_of new) tells ∙ ap (λ (l : List (List Taken)). told_of old ++ l) commits in
      writes_same start old new opened kept written tells same (was_before start old new kept written holds same)

  -- what was held is written and published, as one batch
  pub writes_published : (start : State) (old new : Flusher D L disk) (batch : List Taken) → committed_of old ++ waiting_of old ≡ batch ∷ [] → opened_of new ≡ opened_of old → Kept start (state_of (store_of old)) (told_of old) (committed_of old)
      → Kept start (state_of (store_of new)) (told_of new) (committed_of new)
      → Goes (IsWithOrWithout (state_of (store_of old)) (commands_of (waiting_of old))) (store_of old) (store_of new)
      → (has_failed (store_of old) ≡ false → has_failed (store_of new) ≡ false)
      → told_of new ≡ told_of old ++ (committed_of old ++ waiting_of old) → committed_of new ≡ [] → waiting_of new ≡ [] → Writes start old new
  writes_published start old new batch one opened kept after goes works tells none nothing =
      let same : given_to new ≡ given_to old =
      ap (λ (l : List (List Taken)). told_of new ++ (l ++ waiting_of new)) none ∙ ap (λ (l : List (List Taken)). told_of new ++ l) nothing ∙ append-nil (told_of new) ∙ tells in
      let mapped : Goes (IsBeginning (told_count old) start (given_to new)) (store_of old) (store_of new) =
      goes_map (λ content found. subst (λ (b : List (List Taken)). IsBeginning (told_count old) start b content) (sym same)
      (held_found start (state_of (store_of old)) (told_of old) (committed_of old) (waiting_of old) content kept found)) goes in
      record {
        told = (committed_of old ++ waiting_of old, tells);
        more = ([], same ∙ sym (append-nil (given_to old)));
        goes = mapped;
        opened = opened;
        held =
            subst (λ (l : List (List Taken)). WasAt start (told_count old) l (given_to new) (store_of old) (store_of new))
            (sym (ap (λ (l : List (List Taken)). told_of new ++ l) none ∙ append-nil (told_of new))) (now_published (told_of new) mapped refl);
        each = λ first further begins. now_published first mapped
            (prefix_whole first (told_of new) begins
            (omega (arith, further.1, ap (λ (l : List (List Taken)). length l) tells, length-append (told_of old) (committed_of old ++ waiting_of old), ap (λ (l : List (List Taken)). length l) one)));
        lasts = λ worked is_open content left.
            held_found start (state_of (store_of new)) (told_of new) (committed_of new) (waiting_of new) content after
            (inl (found_now (store_of new) (goes.opens (works worked) is_open) content left));
      }
    where
      -- what the store holds then is exactly what is published
      now_published : (first : List (List Taken)) → Goes (IsBeginning (told_count old) start (given_to new)) (store_of old) (store_of new) → first ≡ told_of new
          → WasAt start (told_count old) first (given_to new) (store_of old) (store_of new)
      now_published first mapped all = record {
        between = store_of new;
        state = after ∙ ap (λ (l : List (List Taken)). fold start (commands_of (told_of new ++ l))) none
            ∙ ap (λ (l : List (List Taken)). fold start (commands_of l)) (append-nil (told_of new) ∙ sym all);
        works = works;
        before = mapped;
        behind = subst (λ (l : List (List Taken)). Goes (IsBeginning (length (commands_of l)) start (given_to new)) (store_of new) (store_of new)) (sym all)
            (goes_none (store_of new) (λ is_open. held_found start (state_of (store_of new)) (told_of new) (committed_of new) (waiting_of new) _ after
            (inl (found_as _ _ (found_open (store_of new) is_open)))));
      }

  -- a batch more is held
  pub writes_held : (start : State) (old new : Flusher D L disk) (batch : List Taken) → opened_of new ≡ opened_of old → Kept start (state_of (store_of old)) (told_of old) (committed_of old)
      → store_of new ≡ store_of old → told_of new ≡ told_of old → committed_of new ≡ committed_of old → waiting_of old ≡ [] → waiting_of new ≡ batch ∷ [] → Writes start old new
  writes_held start old new batch opened kept store tells commits nothing waits =
      let more : given_to new ≡ given_to old ++ batch ∷ [] =
      ap (λ (t : List (List Taken)). t ++ (committed_of new ++ waiting_of new)) tells ∙ ap (λ (l : List (List Taken)). told_of old ++ (l ++ waiting_of new)) commits
      ∙ ap (λ (l : List (List Taken)). told_of old ++ (committed_of old ++ l)) (waits ∙ ap (λ (l : List (List Taken)). l ++ batch ∷ []) (sym nothing))
      ∙ ap (λ (l : List (List Taken)). told_of old ++ l) (sym (append_assoc (committed_of old) (waiting_of old) (batch ∷ [])))
      ∙ sym (append_assoc (told_of old) (committed_of old ++ waiting_of old) (batch ∷ [])) in
      let found : (content : List ℕ) → FoundAs content (state_of (store_of old)) → IsBeginning (told_count old) start (given_to new) content =
      λ content found. longer (told_count old) start (given_to old) (given_to new) (batch ∷ []) content more
      (held_found start (state_of (store_of old)) (told_of old) (committed_of old) (waiting_of old) content kept (inl found)) in
      let count : told_count new ≡ told_count old = ap (λ (t : List (List Taken)). length (commands_of t)) tells in
      let still : Goes (IsBeginning (told_count old) start (given_to new)) (store_of old) (store_of new) =
      subst (λ (s : Store D disk). Goes (IsBeginning (told_count old) start (given_to new)) (store_of old) s) (sym store)
      (goes_none (store_of old) (λ is_open. found _ (found_as _ _ (found_open (store_of old) is_open)))) in
      record {
        told = ([], tells ∙ sym (append-nil (told_of old)));
        more = (batch ∷ [], more);
        goes = still;
        opened = opened;
        held =
            let holds : told_of new ++ committed_of new ≡ told_of old ++ committed_of old =
            ap (λ (t : List (List Taken)). t ++ committed_of new) tells ∙ ap (λ (l : List (List Taken)). told_of old ++ l) commits in
            subst (λ (l : List (List Taken)). WasAt start (told_count old) l (given_to new) (store_of old) (store_of new)) (sym holds)
            (record {
              between = store_of old;
              state = kept;
              works = λ works. works;
              before = goes_none (store_of old) (λ is_open. found _ (found_as _ _ (found_open (store_of old) is_open)));
              behind = subst (λ (s : Store D disk). Goes (IsBeginning (length (commands_of (told_of old ++ committed_of old))) start (given_to new)) (store_of old) s) (sym store)
                  (goes_none (store_of old) (λ is_open. longer (length (commands_of (told_of old ++ committed_of old))) start (given_to old) (given_to new) (batch ∷ []) _ more
                  (held_all start (state_of (store_of old)) (told_of old) (committed_of old) (waiting_of old) _ kept (inl (found_as _ _ (found_open (store_of old) is_open))))));
            });
        lasts = λ works is_open content left.
            fewer (told_count old) (told_count new) start (given_to new) content (omega (arith, count)) ((still.any_moment works is_open).last content left);
        each = λ first further begins. absurd (none_longer (told_of old) (told_of new) first tells further begins);
      }

  -- no call at all
  pub writes_none : (start : State) (here : Flusher D L disk) → Kept start (state_of (store_of here)) (told_of here) (committed_of here) → Writes start here here
  writes_none start here kept =
      writes_still start here here refl kept (goes_none (store_of here) (λ is_open. found_as _ _ (found_open (store_of here) is_open))) refl refl refl

-- the refusal of an answer, or this one where there is none
abbrev refusal_in : {T : Type 0} → Refusal → Result T Refusal → Refusal
refusal_in none (Ok answer) = none
refusal_in none (Err refusal) = refusal

-- whether a store that worked works, by an answer
pub works_after : {A : Type 0} (answer : A) (old new : Bool) → (old ≡ false → (new ≡ true ↔ IsErrOf (Ok answer) Fault)) → old ≡ false → new ≡ false
works_after answer old new fails works = false_from_ne_true new (λ failed. no_error answer Fault ((fails works).0 failed))

pub works_refused : {A : Type 0} (refusal : Refusal) (old new : Bool) → (old ≡ false → (new ≡ true ↔ IsErrOf {T = A} (Err refusal) Fault)) → refusal ≢ Fault → old ≡ false → new ≡ false
works_refused refusal old new fails other works = false_from_ne_true new (λ failed. other (ap (refusal_in refusal) ((fails works).0 failed)))

pub fails_ok : {A : Type 0} (answer : A) (old new : Bool) → (old ≡ false → new ≡ false) → old ≡ false → new ≡ true ↔ IsErrOf (Ok answer) Fault
fails_ok answer old new works worked = (λ failed. absurd (false≢true (sym (works worked) ∙ failed)), λ is. absurd (no_error answer Fault is))

pub fails_err : {S T : Type 0} (refusal : Refusal) (old new : Bool) → (old ≡ false → (new ≡ true ↔ IsErrOf {T = S} (Err refusal) Fault)) → old ≡ false
    → new ≡ true ↔ IsErrOf {T = T} (Err refusal) Fault
fails_err refusal old new fails works = (λ failed. same_refusal refusal Fault ((fails works).0 failed), λ is. (fails works).1 (same_refusal refusal Fault is))

-- the device has failed where `Fault` is told
pub failed_at : {S : Type 0} (refusal : Refusal) (old new : Bool) → old ≡ false → (old ≡ false → (new ≡ true ↔ IsErrOf {T = S} (Err refusal) Fault)) → refusal ≡ Fault → new ≡ true
failed_at refusal old new works fails is = (fails works).1 (ap Err is)

-- the same refusal, of another answer
pub fails_same : {S T : Type 0} (one two : Refusal) (old new : Bool) → one ≡ two → (old ≡ false → (new ≡ true ↔ IsErrOf {T = S} (Err two) Fault)) → old ≡ false
    → new ≡ true ↔ IsErrOf {T = T} (Err one) Fault
fails_same {S} {T} one two old new is fails =
    fails_err one old new (subst (λ (r : Refusal). old ≡ false → (new ≡ true ↔ IsErrOf {T = S} (Err r) Fault)) (sym is) fails)

pub fails_not : {T : Type 0} (refusal : Refusal) (old new : Bool) → (old ≡ false → new ≡ false) → refusal ≢ Fault → old ≡ false → new ≡ true ↔ IsErrOf {T = T} (Err refusal) Fault
fails_not refusal old new works other worked = (λ failed. absurd (false≢true (sym (works worked) ∙ failed)), λ is. absurd (other (ap (refusal_in refusal) is)))

module _ {D : Type 0} {disk : Ghosts D} where
  -- a store that is the same as one that was kept up
  pub kept_up_same : (old mid new : Store D disk) → IsKeptUp old mid → new ≡ mid → IsKeptUp old new
  kept_up_same old mid new first same = subst (λ (s : Store D disk). IsKeptUp old s) (sym same) first

  pub kept_up_none : (store : Store D disk) → IsKeptUp store store
  kept_up_none store = record { goes = goes_none store (λ is_open. found_as _ _ (found_open store is_open)); state = refl }

  pub kept_up_on : (old mid new : Store D disk) → IsKeptUp old mid → IsKeptUp mid new → IsKeptUp old new
  kept_up_on old mid new first second = record {
    goes = goes_on first.goes (subst (λ (s : State). Goes (λ content. FoundAs content s) mid new) first.state second.goes);
    state = second.state ∙ first.state;
  }

  -- what finds no room in a store that was kept up finds none in the one before
  pub full_before : (batch : List Taken) (old mid : Store D disk) → IsKeptUp old mid → (has_failed old ≡ false → has_failed mid ≡ false) → IsFullFor batch mid → IsFullFor batch old
  full_before batch old mid first works full = record {
    between = full.between;
    kept_up = kept_up_on old mid full.between first full.kept_up;
    works = λ worked. full.works (works worked);
    no_room = full.no_room;
    last = full.last;
  }

module _ {D L : Type 0} {disk : Ghosts D} where
  -- a flusher that is kept up, by no call, and by one call and then others
  pub keeps_none : (flusher : Flusher D L disk) → KeepsUp flusher flusher
  keeps_none flusher = record { kept_up = kept_up_none (store_of flusher); batches = record { told = refl; committed = refl; waiting = refl; opened = refl } }

  pub keeps_on : (old mid new : Flusher D L disk) → KeepsUp old mid → KeepsUp mid new → KeepsUp old new
  keeps_on old mid new first second = record {
    kept_up = kept_up_on (store_of old) (store_of mid) (store_of new) first.kept_up second.kept_up;
    batches = record {
      told = second.batches.told ∙ first.batches.told;
      committed = second.batches.committed ∙ first.batches.committed;
      waiting = second.batches.waiting ∙ first.batches.waiting;
      opened = second.batches.opened ∙ first.batches.opened;
    };
  }

  -- a step of the upkeep that makes no call, and one that can't fail
  pub upkeep_none : {A : Type 0} (answer : A) (flusher : Flusher D L disk) → IsUpkeep (Ok answer) flusher flusher
  upkeep_none answer flusher =
      record { keeps = keeps_none flusher; fails = fails_ok answer (has_failed (store_of flusher)) (has_failed (store_of flusher)) (λ works. works); only = tt }

  pub upkeep_still : {A : Type 0} (answer : A) (old new : Flusher D L disk) → KeepsUp old new → has_failed (store_of new) ≡ has_failed (store_of old) → IsUpkeep (Ok answer) old new
  upkeep_still answer old new keeps same =
      record { keeps = keeps; fails = fails_ok answer (has_failed (store_of old)) (has_failed (store_of new)) (λ works. same ∙ works); only = tt }

  -- a store that worked works after one that isn't refused
  upkeep_works : {A : Type 0} (answer : A) (old new : Flusher D L disk) → IsUpkeep (Ok answer) old new → has_failed (store_of old) ≡ false → has_failed (store_of new) ≡ false
  upkeep_works answer old new step = works_after answer (has_failed (store_of old)) (has_failed (store_of new)) step.fails

  -- one that is told by another answer
  pub upkeep_as : {A B : Type 0} (answer : A) (other : B) (old new : Flusher D L disk) → IsUpkeep (Ok answer) old new → IsUpkeep (Ok other) old new
  upkeep_as answer other old new step =
      record { keeps = step.keeps; fails = fails_ok other (has_failed (store_of old)) (has_failed (store_of new)) (upkeep_works answer old new step); only = tt }

  pub upkeep_refused : {A B : Type 0} (refusal : Refusal) (old new : Flusher D L disk) → IsUpkeep {A = A} (Err refusal) old new → IsUpkeep {A = B} (Err refusal) old new
  upkeep_refused {A} {B} refusal old new step =
      record { keeps = step.keeps; fails = fails_err {S = A} {T = B} refusal (has_failed (store_of old)) (has_failed (store_of new)) step.fails; only = step.only }

  -- one after others
  pub upkeep_on : {A B : Type 0} (answer : A) (result : Result B Refusal) (old mid new : Flusher D L disk) → IsUpkeep (Ok answer) old mid → IsUpkeep result mid new
      → IsUpkeep result old new
  upkeep_on answer result old mid new first second =
      record { keeps = keeps_on old mid new first.keeps second.keeps; fails = λ works. second.fails (upkeep_works answer old mid first works); only = second.only }

  -- a call that was refused, which the step tells as `Fault`, or which it doesn't tell
  pub upkeep_fault : {A B : Type 0} (refusal : Refusal) (old new : Flusher D L disk) → KeepsUp old new
      → (has_failed (store_of old) ≡ false → (has_failed (store_of new) ≡ true ↔ IsErrOf {T = A} (Err refusal) Fault)) → refusal ≡ Fault → IsUpkeep {A = B} (Err refusal) old new
  upkeep_fault {A} {B} refusal old new keeps fails is =
      record { keeps = keeps; fails = fails_err {S = A} {T = B} refusal (has_failed (store_of old)) (has_failed (store_of new)) fails; only = is }

  pub upkeep_but : {A B : Type 0} (refusal : Refusal) (answer : B) (old new : Flusher D L disk) → KeepsUp old new
      → (has_failed (store_of old) ≡ false → (has_failed (store_of new) ≡ true ↔ IsErrOf {T = A} (Err refusal) Fault)) → refusal ≢ Fault → IsUpkeep (Ok answer) old new
  upkeep_but {A} refusal answer old new keeps fails other = record {
    keeps = keeps;
    fails = fails_ok answer (has_failed (store_of old)) (has_failed (store_of new)) (works_refused {A = A} refusal (has_failed (store_of old)) (has_failed (store_of new)) fails other);
    only = tt;
  }

  -- a call that wasn't refused
  pub upkeep_done : {A B : Type 0} (answer : A) (other : B) (old new : Flusher D L disk) → KeepsUp old new
      → (has_failed (store_of old) ≡ false → (has_failed (store_of new) ≡ true ↔ IsErrOf (Ok answer) Fault)) → IsUpkeep (Ok other) old new
  upkeep_done answer other old new keeps fails = record {
    keeps = keeps;
    fails = fails_ok other (has_failed (store_of old)) (has_failed (store_of new)) (works_after answer (has_failed (store_of old)) (has_failed (store_of new)) fails);
    only = tt;
  }

  -- a store that was kept up, and nothing else
  pub writes_kept_up : (start : State) (old new : Flusher D L disk) → Kept start (state_of (store_of old)) (told_of old) (committed_of old) → KeepsUp old new → Writes start old new
  writes_kept_up start old new kept keeps = writes_still start old new keeps.batches.opened kept keeps.kept_up.goes keeps.batches.told keeps.batches.committed keeps.batches.waiting

  -- a write that was refused
  pub writes_refused : {A : Type 0} (start : State) (old new : Flusher D L disk) (refusal : Refusal) → Kept start (state_of (store_of old)) (told_of old) (committed_of old)
      → Goes (IsWithOrWithout (state_of (store_of old)) (commands_of (waiting_of old))) (store_of old) (store_of new)
      → Kept start (state_of (store_of new)) (told_of new) (committed_of new) → IsUnpublished refusal old new → IsWriteRefused refusal old new
      → (has_failed (store_of old) ≡ false → (has_failed (store_of new) ≡ true ↔ IsErrOf {T = A} (Err refusal) Fault)) → Writes start old new
  writes_refused {A} start old new refusal kept goes after left why fails =
      writes_same start old new left.opened kept goes left.told same (by_reason why.only)
    where
      same : given_to new ≡ given_to old
      same = ap (λ (t : List (List Taken)). t ++ (committed_of new ++ waiting_of new)) left.told ∙ ap (λ (l : List (List Taken)). told_of old ++ l) left.held

      held_still : refusal ≢ NoMemory → WasAt start (told_count old) (told_of new ++ committed_of new) (given_to new) (store_of old) (store_of new)
      held_still other =
          was_before start old new kept goes
          (ap (λ (t : List (List Taken)). t ++ committed_of new) left.told ∙ ap (λ (l : List (List Taken)). told_of old ++ l) (left.still other).batches.committed) same

      -- its batch isn't committed, or the store works
      by_reason : IsOneOf refusal (JournalFull ∷ StillNeeded ∷ NoMemory ∷ Fault ∷ [])
          → WasAt start (told_count old) (told_of new ++ committed_of new) (given_to new) (store_of old) (store_of new)
      by_reason (inl full) = held_still (λ memory. absurd (cc (full, memory)))
      by_reason (inr (inl needed)) = held_still (λ memory. absurd (cc (needed, memory)))
      by_reason (inr (inr (inl memory))) =
          was_after start old new kept after goes
          (works_refused {A = A} refusal (has_failed (store_of old)) (has_failed (store_of new)) fails (memory_not_fault refusal memory)) same
      by_reason (inr (inr (inr fault))) = held_still (λ memory. absurd (cc (fault, memory)))

  -- a write that published what was held, as one batch
  pub writes_written : (start : State) (old new : Flusher D L disk) (both : Receipt D × List (List Taken)) → Kept start (state_of (store_of old)) (told_of old) (committed_of old)
      → Kept start (state_of (store_of new)) (told_of new) (committed_of new)
      → Goes (IsWithOrWithout (state_of (store_of old)) (commands_of (waiting_of old))) (store_of old) (store_of new)
      → (has_failed (store_of old) ≡ false → has_failed (store_of new) ≡ false) → HasPublished (Some both) old new → Writes start old new
  writes_written start old new both kept after goes works done =
      writes_published start old new both.0.batch done.some.batch done.opened kept after goes works done.some.published done.committed done.waiting

  pub one_written : (old new : Flusher D L disk) (both : Receipt D × List (List Taken)) → HasPublished (Some both) old new → IsOneMore old new
  one_written old new both done =
      record { batch = both.0.batch; told = done.some.published ∙ ap (λ (l : List (List Taken)). told_of old ++ l) done.some.batch }

  -- a write that is refused, but not out of memory and not by the device, had no room
  pub full_for_good : (old new : Flusher D L disk) (refusal : Refusal) → IsUnpublished refusal old new → IsWriteRefused refusal old new
      → refusal ≢ NoMemory → refusal ≢ Fault → IsFullForGood refusal (store_of old) new
  full_for_good old new refusal left why no_memory no_fault = by_case why.only
    where
      full : (refusal ≡ JournalFull) ⊎ (refusal ≡ StillNeeded) → HasNoRoom old → IsFullForGood refusal (store_of old) new
      full told none = record {
        told = told;
        no_room = (none.0, (left.still no_memory).batches.waiting ∙ none.1, none.2);
        last = why.used_up told;
      }

      by_case : IsOneOf refusal (JournalFull ∷ StillNeeded ∷ NoMemory ∷ Fault ∷ []) → IsFullForGood refusal (store_of old) new
      by_case (inl is_full) = full (inl is_full) (why.full is_full).0
      by_case (inr (inl is_needed)) = full (inr is_needed) (why.needed is_needed).0
      by_case (inr (inr (inl is_memory))) = absurd (no_memory is_memory)
      by_case (inr (inr (inr is_fault))) = absurd (no_fault is_fault)

  -- why a turn fails whose write is refused
  pub turn_failed : (old new : Flusher D L disk) (refusal : Refusal) → IsUnpublished refusal old new → IsWriteRefused refusal old new
      → refusal ≢ NoMemory → refusal ≢ Fault → IsTurnFailed old refusal new
  turn_failed old new refusal left why no_memory no_fault = by_case why.only
    where
      full_for : (batch : List Taken) → has_room (store_of old) batch ≡ false → (refusal ≡ JournalFull) ⊎ (refusal ≡ StillNeeded) → IsFullFor batch (store_of old)
      full_for batch none told = record { between = store_of old; kept_up = kept_up_none (store_of old); works = λ works. works; no_room = none; last = why.used_up told }

      by_case : IsOneOf refusal (JournalFull ∷ StillNeeded ∷ NoMemory ∷ Fault ∷ []) → IsTurnFailed old refusal new
      by_case (inl is_full) =
          let p = (why.full is_full).0 in
          (inl is_full, (p.0, (left.still no_memory).batches.waiting ∙ p.1, full_for p.0 p.2 (inl is_full)))
      by_case (inr (inl is_needed)) =
          let p = (why.needed is_needed).0 in
          (inr is_needed, (p.0, (left.still no_memory).batches.waiting ∙ p.1, full_for p.0 p.2 (inr is_needed)))
      by_case (inr (inr (inl memory))) = absurd (no_memory memory)
      by_case (inr (inr (inr fault))) = absurd (no_fault fault)

  -- one batch more than before it was kept up and held
  pub one_before : (old mid new : Flusher D L disk) → told_of mid ≡ told_of old → IsOneMore mid new → IsOneMore old new
  one_before old mid new same one = record { batch = one.batch; told = one.told ∙ ap (λ (t : List (List Taken)). t ++ one.batch ∷ []) same }

  -- why a turn failed that kept its store up before the write
  pub failed_before : (old mid new : Flusher D L disk) (refusal : Refusal) → IsKeptUp (store_of old) (store_of mid)
      → (has_failed (store_of old) ≡ false → has_failed (store_of mid) ≡ false) → told_of mid ≡ told_of old → IsTurnFailed mid refusal new → IsTurnFailed old refusal new
  failed_before old mid new refusal first works same (is, (batch, held, full)) = (is, (batch, held, full_before batch (store_of old) (store_of mid) first works full))

  turned_before : (answer : Turned D L) (old mid new : Flusher D L disk) → told_of mid ≡ told_of old → HasTurned mid answer new → HasTurned old answer new
  turned_before (Settled token) old mid new same one = (one_before old mid new same one.0, one.1)
  turned_before (Nothing token) old mid new same none = (none.0 ∙ same, none.1)

  -- what a write answered, told of the flusher before it was kept up
  pub turned_after : {E : Type 0} (result : Result (Turned D L) E) (old mid new : Flusher D L disk) → told_of mid ≡ told_of old
      → IfOk result (λ answer. HasTurned mid answer new) → IfOk result (λ answer. HasTurned old answer new)
  turned_after (Ok answer) old mid new same turned = turned_before answer old mid new same turned
  turned_after (Err refusal) old mid new same turned = tt

  pub causes_after : {A : Type 0} (result : Result A Refusal) (old mid new : Flusher D L disk) → IsKeptUp (store_of old) (store_of mid)
      → (has_failed (store_of old) ≡ false → has_failed (store_of mid) ≡ false) → told_of mid ≡ told_of old
      → IfErr result (λ e. e ≢ NoMemory → e ≢ Fault → IsTurnFailed mid e new) → IfErr result (λ e. e ≢ NoMemory → e ≢ Fault → IsTurnFailed old e new)
  causes_after (Ok answer) old mid new first works same causes = tt
  causes_after (Err refusal) old mid new first works same causes = λ no_memory no_fault. failed_before old mid new refusal first works same (causes no_memory no_fault)
