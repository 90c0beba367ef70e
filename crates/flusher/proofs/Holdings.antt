-- What a flusher holds, and how it fits the state of its store.
use Rattle.std.proofs.Common.{◌≡◌, ◌≢◌, ◌⊎◌, inl, inr, true, false, List, [], ◌∷◌, ◌++◌, length, ◌<◌, ◌≤◌, ◌+◌, ◌^◌, Option, Some, None, refl, sym, ◌∙◌, ap, subst, append-nil, arith}
use Rattle.std.specs.Prelude.{Result, Ok, Err, OnOk, OnErr, IfOk, IfErr, IfSome, IfNone, IsErrOf, option_to_list}
use Rattle.std.proofs.lemmas.Bool.{and_parts, false≢true}
use mathlib.Core.List.{IsPrefix}
use Rattle.std.specs.Option.{option_map}
use Rattle.disk.specs.Crash.{LeavesOnly}
use Rattle.refusal.specs.Refusal.{IsOneOf}
use Rattle.refusal.specs.declared.Refusal.{Refusal}
use Rattle.refusal.specs.declared.Refusal.TheVariants.{JournalFull, Stranger, StillNeeded, NoMemory, Fault}
use Rattle.disk.specs.declared.device.Disk.{Ghosts}
use Rattle.delta.specs.Element.{Element}
use Rattle.revision.specs.Command.{Taken}
use Rattle.revision.specs.Made.{AreMade}
use Rattle.revision.specs.State.{State, fold, grown, grows, all_grow}
use Rattle.recovery.specs.declared.store.Store.{Store}
use Rattle.recovery.specs.Faults.{FailsAtFaults}
use Rattle.recovery.specs.Found.{commands_of, FoundAs}
use Rattle.milestone.specs.Job.{Job}
use Rattle.recovery.specs.Open.{IsOpen, IsUnchanged, IsFreedNow, IsHalfFreed, IsCommittedNow, IsCommittedBehind, has_room, IsPutNow, IsWithOrWithout, device_of, state_of, has_failed}
use Rattle.recovery.specs.Moment.{Moment, Receipt, IsMomentOf, moment_of}
use Rattle.recovery.specs.Goes.{Goes}
use Rattle.recovery.proofs.CallerLemmas.{goes_none, goes_call, found_as, found_open}
use Rattle.world.specs.World.{Entry, takens}
use Rattle.published.specs.Order.{IsLegal}
use Rattle.published.proofs.CallerLemmas.{begun_grows, committed_moment}
use Rattle.view.specs.Published.{Published}
use Rattle.view.specs.Stages.{IsNext}
use Rattle.hub.specs.Runs.{Run}
use Rattle.flusher.specs.declared.flusher.Flusher.{Flusher}
use Rattle.flusher.specs.Flushers.{IsOneAtMost, IsCommittedTo, IsLeftWithout, IsHeldCommitted, IsGivenUp}
use Rattle.flusher.specs.Holding.{store_of, told_of, committed_of, waiting_of, opened_of}
use Rattle.flusher.specs.Upkeep.{KeepsUp}
use Rattle.flusher.proofs.Beginnings.{commands-append, fold-append}

-- the refusal of an answer, or this one where there is none
abbrev pub refusal_in : {T : Type 0} → Refusal → Result T Refusal → Refusal
refusal_in none (Ok answer) = none
refusal_in none (Err refusal) = refusal

-- a refusal that is known of one answer is known of another one of the same
pub same_refusal : {S T : Type 0} (one : Refusal) (two : Refusal) → IsErrOf {T = S} (Err one) two → IsErrOf {T = T} (Err one) two
same_refusal one two is = ap (λ (e : Refusal). Err e) (ap (refusal_in one) is)

pub told_of_error : {T : Type 0} (one two : Refusal) → IsErrOf {T = T} (Err one) two → one ≡ two
told_of_error {T} one two is = ap (refusal_in {T = T} one) is

abbrev pub held_in : Option Run → List (List Taken)
held_in waiting = option_to_list (option_map (λ r. r.commands) waiting)

-- one batch at most is held
pub held_few : (waiting : Option Run) → length (held_in waiting) ≤ 1
held_few None = omega arith
held_few (Some r) = omega arith

pub none_of_held : (waiting : Option Run) → held_in waiting ≡ [] → waiting ≡ None
none_of_held None is = refl
none_of_held (Some r) is = absurd (let no : ⊥ = cc in no)

pub same_batch : (batches : List (List Taken)) (one two : List Taken) → batches ≡ one ∷ [] → batches ≡ two ∷ [] → one ≡ two
same_batch batches one two first second = cc

module _ {D : Type 0} {disk : Ghosts D} where
  pub goes_not : (store : Store D disk) (commands : List Taken) → Goes (IsWithOrWithout (state_of store) commands) store store
  goes_not store commands = goes_none store (λ is_open. inl (found_as _ _ (found_open store is_open)))

  pub goes_batch : (old new : Store D disk) (batch : List Taken) (batches : List (List Taken)) → batches ≡ batch ∷ [] → Goes (IsWithOrWithout (state_of old) batch) old new
      → Goes (IsWithOrWithout (state_of old) (commands_of batches)) old new
  goes_batch old new batch batches is goes =
      subst (λ (c : List Taken). Goes (IsWithOrWithout (state_of old) c) old new) (sym (ap commands_of is ∙ append-nil batch)) goes

pub no_batch : (batch : List Taken) (batches : List (List Taken)) → batches ≡ [] → batches ≡ batch ∷ [] → ⊥
no_batch batch batches none some = let no : ⊥ = cc in no

-- what is left of a store where no batch was to be committed, and where one was
module _ {D : Type 0} {disk : Ghosts D} (old new : Store D disk) where
  pub committed_one : (batch : List Taken) (batches : List (List Taken)) → batches ≡ batch ∷ []
      → (has_room old batch ≡ true → (is_open : IsOpen old) → IsCommittedNow batch old is_open new)
      → (has_room old batch ≡ false → (is_open : IsOpen old) → IsCommittedBehind batch old is_open new) → IsHeldCommitted batches old new
  committed_one batch batches is now behind =
      subst (λ (l : List (List Taken)). IsHeldCommitted l old new) (sym is)
      (let done : IsCommittedTo batch old new = record { with_room = now; behind = behind } in done)

  pub given_up_one : (batch : List Taken) (batches : List (List Taken)) → batches ≡ batch ∷ [] → (has_room old batch ≡ true → IsUnchanged old new)
      → (has_room old batch ≡ false → (is_open : IsOpen old) → IsHalfFreed old is_open new ⊎ IsFreedNow old is_open new) → IsGivenUp batches old new
  given_up_one batch batches is unchanged freed =
      subst (λ (l : List (List Taken)). IsGivenUp l old new) (sym is)
      (let left : IsLeftWithout batch old new = record { with_room = unchanged; behind = freed } in left)

module _ {D : Type 0} {disk : Ghosts D} where
  pub committed_none : (store : Store D disk) (batches : List (List Taken)) → batches ≡ [] → IsHeldCommitted batches store store
  committed_none store batches none = subst (λ (l : List (List Taken)). IsHeldCommitted l store store) (sym none) refl

-- an Ok is no refusal
pub no_error : {A : Type 0} (answer : A) (refusal : Refusal) → IsErrOf (Ok answer) refusal → ⊥
no_error answer refusal is = cc

module _ {D : Type 0} {disk : Ghosts D} (old new : Store D disk) where
  -- what a milestone of a job leaves
  put_done : (job : Job) (result : Result (Unit {0}) Refusal) → OnOk result ((is_open : IsOpen old) → IsPutNow is_open.cells is_open.table job new) → OnOk result (IsOpen old → IsOpen new)
  put_done job (Ok answer) done = λ is_open. (done is_open).goes_on
  put_done job (Err refusal) done = tt

  pub goes_put : (job : Job) (result : Result (Unit {0}) Refusal) → FailsAtFaults result old new
      → (has_failed old ≡ false → IsOpen old → LeavesOnly disk (λ content. FoundAs content (state_of old)) (device_of old) (device_of new))
      → OnOk result ((is_open : IsOpen old) → IsPutNow is_open.cells is_open.table job new)
      → IfErr result (λ e. e ≢ Fault → IsOpen old → IsOpen new)
      → Goes (λ content. FoundAs content (state_of old)) old new
  goes_put job result faults any_moment done kept = goes_call result faults.failed_before faults.fails any_moment (put_done job result done) kept

module _ {D L : Type 0} {disk : Ghosts D} where
  -- a call of its store that leaves the state, and changes no more of the flusher
  pub keeps_by : {old new : Flusher D L disk} → Goes (λ content. FoundAs content (state_of (store_of old))) (store_of old) (store_of new)
      → state_of (store_of new) ≡ state_of (store_of old) → told_of new ≡ told_of old → committed_of new ≡ committed_of old → waiting_of new ≡ waiting_of old
      → opened_of new ≡ opened_of old → KeepsUp old new
  keeps_by goes state told committed waiting opened = record {
    kept_up = record { goes = goes; state = state };
    batches = record { told = told; committed = committed; waiting = waiting; opened = opened };
  }

-- all that a publisher was given is published
abbrev pub all_published : Published → Published
all_published before = record { told = before.told ++ before.unpublished; unpublished = []; moments = before.moments }

-- one batch that is committed more
pub kept_more : (start old new : State) (before after : Published) (moments : List Moment) (receipt batch : List Taken) → old ≡ fold start (commands_of (before.told ++ before.unpublished)) → before.unpublished ≡ []
    → after ≡ record { told = before.told; unpublished = receipt ∷ []; moments = moments } → receipt ≡ batch → new ≡ fold old batch → new ≡ fold start (commands_of (after.told ++ after.unpublished))
kept_more start old new before after moments receipt batch kept none is same grown =
    grown ∙ ap (λ (s : State). fold s batch) (kept ∙ ap (λ (l : List (List Taken)). fold start (commands_of (before.told ++ l))) none ∙ ap (λ (l : List (List Taken)). fold start (commands_of l)) (append-nil before.told))
    ∙ sym (fold-append start (commands_of before.told) batch)
    ∙ ap (λ (c : List Taken). fold start (commands_of before.told ++ c)) (sym (append-nil batch) ∙ ap (λ (b : List Taken). b ++ []) (sym same))
    ∙ ap (fold start) (sym (commands-append before.told (receipt ∷ [])))
    ∙ ap (λ (p : Published). fold start (commands_of (p.told ++ p.unpublished))) (sym is)

-- the batch that is held is published: what the store holds is the same
pub kept_published : (start state : State) (before after : Published) → state ≡ fold start (commands_of (before.told ++ before.unpublished)) → after ≡ all_published before
    → state ≡ fold start (commands_of (after.told ++ after.unpublished))
kept_published start state before after kept is =
    kept ∙ ap (λ (l : List (List Taken)). fold start (commands_of l)) (sym (append-nil (before.told ++ before.unpublished)))
    ∙ ap (λ (p : Published). fold start (commands_of (p.told ++ p.unpublished))) (sym is)

grow_behind : (front back : List Taken) (state : State) → all_grow state (front ++ back) ≡ true → all_grow (fold state front) back ≡ true
grow_behind [] back state grow = grow
grow_behind (first ∷ others) back state grow =
    grow_behind others back (grown state first) (and_parts (grows state first) (all_grow (grown state first) (others ++ back)) grow).1

-- A batch that continues what is published, in a legal history, continues what the store holds.
held_grows : (start state : State) (told committed : List (List Taken)) (batch : List Taken) (order : List Entry) → IsLegal start order
    → IsPrefix (commands_of told ++ batch) (takens order) → state ≡ fold start (commands_of (told ++ committed)) → committed ≡ [] → all_grow state batch ≡ true
held_grows start state told committed batch order legal begins kept none =
    ap (λ (s : State). all_grow s batch)
    (kept ∙ ap (λ (l : List (List Taken)). fold start (commands_of (told ++ l))) none ∙ ap (λ (l : List (List Taken)). fold start (commands_of l)) (append-nil told))
    ∙ grow_behind (commands_of told) batch start (begun_grows start (commands_of told ++ batch) order legal begins)

-- The same of a batch that is held, by the token and the list that name what is published and what is held.
pub held_continues : (start begin state : State) (told named committed : List (List Taken)) (run batch : List Taken) (order : List Entry) → begin ≡ start
    → named ≡ told → batch ≡ run → IsLegal start order → IsPrefix (commands_of named ++ run) (takens order)
    → state ≡ fold begin (commands_of (told ++ committed)) → committed ≡ [] → all_grow state batch ≡ true
held_continues start begin state told named committed run batch order begun same alike legal next kept none =
    ap (all_grow state) alike ∙ held_grows start state told committed run order legal goes_on there none
  where
    there : state ≡ fold start (commands_of (told ++ committed))
    there = kept ∙ ap (λ (s : State). fold s (commands_of (told ++ committed))) begun

    goes_on : IsPrefix (commands_of told ++ run) (takens order)
    goes_on = subst (λ (l : List (List Taken)). IsPrefix (commands_of l ++ run) (takens order)) same next

-- The documents beside it are those that its commands leave, on what the store holds,
pub held_made : (start begin state : State) (told named committed : List (List Taken)) (run batch : List Taken) (documents : List (List Element)) → begin ≡ start
    → named ≡ told → batch ≡ run → state ≡ fold begin (commands_of (told ++ committed)) → committed ≡ [] → AreMade (fold start (commands_of named)) run documents
    → AreMade state batch documents
held_made start begin state told named committed run batch documents begun same alike kept none made =
    subst (λ (b : List Taken). AreMade state b documents) (sym alike) (subst (λ (s : State). AreMade s run documents) (sym there) made)
  where
    there : state ≡ fold start (commands_of named)
    there = kept ∙ ap (λ (s : State). fold s (commands_of (told ++ committed))) begun
        ∙ ap (λ (l : List (List Taken)). fold start (commands_of (told ++ l))) none ∙ ap (λ (l : List (List Taken)). fold start (commands_of l)) (append-nil told)
        ∙ ap (λ (l : List (List Taken)). fold start (commands_of l)) (sym same)

-- and, for a publisher, on what is published.
pub made_on : (start : State) (told named : List (List Taken)) (run receipt : List Taken) (documents : List (List Element)) → named ≡ told → receipt ≡ run
    → AreMade (fold start (commands_of named)) run documents → AreMade (fold start (commands_of told)) receipt documents
made_on start told named run receipt documents same is made =
    subst (λ (l : List (List Taken)). AreMade (fold start (commands_of l)) receipt documents) same
    (subst (λ (r : List Taken). AreMade (fold start (commands_of named)) r documents) (sym is) made)

-- So its commit isn't refused as a stranger's.
pub not_stranger : (state : State) (batch : List Taken) (refusal : Refusal) → all_grow state batch ≡ true → (refusal ≡ Stranger → all_grow state batch ≡ false)
    → (refusal ≡ JournalFull) ⊎ ((refusal ≡ Stranger) ⊎ ((refusal ≡ NoMemory) ⊎ (refusal ≡ Fault)))
    → (refusal ≡ JournalFull) ⊎ ((refusal ≡ NoMemory) ⊎ (refusal ≡ Fault))
not_stranger state batch refusal grow stranger (inl full) = inl full
not_stranger state batch refusal grow stranger (inr (inl strange)) = absurd (false≢true (sym (stranger strange) ∙ grow))
not_stranger state batch refusal grow stranger (inr (inr other)) = inr other

-- nor is the one that makes room
pub no_stranger : (state : State) (batch : List Taken) (refusal : Refusal) → all_grow state batch ≡ true → (refusal ≡ Stranger → all_grow state batch ≡ false)
    → (IsOneOf refusal (JournalFull ∷ StillNeeded ∷ Stranger ∷ [])) ⊎ ((refusal ≡ NoMemory) ⊎ (refusal ≡ Fault))
    → IsOneOf refusal (JournalFull ∷ StillNeeded ∷ NoMemory ∷ Fault ∷ [])
no_stranger state batch refusal grow stranger (inl (inl full)) = inl full
no_stranger state batch refusal grow stranger (inl (inr (inl needed))) = inr (inl needed)
no_stranger state batch refusal grow stranger (inl (inr (inr strange))) = absurd (false≢true (sym (stranger strange) ∙ grow))
no_stranger state batch refusal grow stranger (inr other) = inr (inr other)

-- the next part of the order, for a publisher
pub next_by : (told named : List (List Taken)) (batch receipt order : List Taken) → named ≡ told → receipt ≡ batch → 1 ≤ length batch
    → length (commands_of named) + length batch < 2 ^ 64 → IsPrefix (commands_of named ++ batch) order → IsNext (commands_of told) receipt order
next_by told named batch receipt order same is some few next =
    subst (λ (l : List (List Taken)). IsNext (commands_of l) receipt order) same
    (subst (λ (r : List Taken). IsNext (commands_of named) r order) (sym is) (record { some = some; few = few; next = next }))

-- A publish leaves a publisher unchanged, or has published what it was given.
pub published_or_not : {D : Type 0} {E : Type 0} (result : Result (Option (Receipt D × List (List Taken))) E) (old new : Published)
    → IfOk result (λ published. IfSome published (λ p. old.unpublished ≡ p.0.batch ∷ []))
    → IfOk result (λ published. IfSome published (λ p. p.1 ≡ old.told ++ p.0.batch ∷ []))
    → IfOk result (λ published. IfSome published (λ p. new ≡ record { told = p.1; unpublished = []; moments = old.moments }))
    → IfOk result (λ published. IfNone published ((old.unpublished ≡ []) × (new ≡ old))) → OnErr result (new ≡ old)
    → (new ≡ old) ⊎ (new ≡ all_published old)
published_or_not (Ok (Some p)) old new batch told shown none same =
    inr (shown ∙ ap (λ (t : List (List Taken)). record { told = t; unpublished = []; moments = old.moments }) (told ∙ ap (λ (l : List (List Taken)). old.told ++ l) (sym batch)))
published_or_not (Ok None) old new batch told shown none same = inl none.1
published_or_not (Err why) old new batch told shown none same = inl same

-- When the commit ended of the batch that was held, the store held what it makes of what is published, over a device that was synced.
pub moment_by : {D : Type 0} (disk : Ghosts D) (start begin old new : State) (told committed : List (List Taken)) (batch : List Taken) (device : D) (receipt : Receipt D)
    → begin ≡ start → old ≡ fold begin (commands_of (told ++ committed)) → committed ≡ [] → receipt.batch ≡ batch → new ≡ fold old batch
    → receipt.at ≡ record { state = new; device = device } → disk.unsynced device ≡ []
    → IsMomentOf (fold start (commands_of (told ++ receipt.batch ∷ []))) (moment_of disk receipt.at)
moment_by disk start begin old new told committed batch device receipt begun kept none same grown at synced =
    committed_moment disk start old new told batch device receipt before same grown at synced
  where
    before : old ≡ fold start (commands_of told)
    before = kept ∙ ap (λ (s : State). fold s (commands_of (told ++ committed))) begun
        ∙ ap (λ (l : List (List Taken)). fold start (commands_of (told ++ l))) none ∙ ap (λ (l : List (List Taken)). fold start (commands_of l)) (append-nil told)

-- so what a flusher's type keeps holds on
pub kept_moved : (start state : State) (old new : Published) → (new ≡ old) ⊎ (new ≡ all_published old)
    → state ≡ fold start (commands_of (old.told ++ old.unpublished)) → state ≡ fold start (commands_of (new.told ++ new.unpublished))
kept_moved start state old new (inl same) kept = kept ∙ ap (λ (p : Published). fold start (commands_of (p.told ++ p.unpublished))) (sym same)
kept_moved start state old new (inr is) kept = kept_published start state old new kept is

pub few_moved : (old new : Published) → (new ≡ old) ⊎ (new ≡ all_published old) → IsOneAtMost old.unpublished → IsOneAtMost new.unpublished
few_moved old new (inl same) few = subst (λ (p : Published). IsOneAtMost p.unpublished) (sym same) few
few_moved old new (inr is) few = subst (λ (p : Published). IsOneAtMost p.unpublished) (sym is) (omega arith, omega arith)

-- the moments stay
pub moments_moved : (old new : Published) → (new ≡ old) ⊎ (new ≡ all_published old) → new.moments ≡ old.moments
moments_moved old new (inl same) = ap (λ (p : Published). p.moments) same
moments_moved old new (inr is) = ap (λ (p : Published). p.moments) is

-- and so do all batches that are published or to be
pub batches_moved : (old new : Published) → (new ≡ old) ⊎ (new ≡ all_published old) → new.told ++ new.unpublished ≡ old.told ++ old.unpublished
batches_moved old new (inl same) = ap (λ (p : Published). p.told ++ p.unpublished) same
batches_moved old new (inr is) = ap (λ (p : Published). p.told ++ p.unpublished) is ∙ append-nil (old.told ++ old.unpublished)
