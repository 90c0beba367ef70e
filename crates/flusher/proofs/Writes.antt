-- What a write leaves, and when it is refused, by what its commit and its publish left.
use Rattle.std.proofs.Common.{◌≡◌, ◌≢◌, ◌⊎◌, inl, inr, Bool, true, false, List, [], ◌∷◌, ◌++◌, Option, Some, None, refl, sym, ◌∙◌, ap, subst, arith, length, append-nil, length-append}
use Rattle.std.specs.Prelude.{Result, Ok, Err, IfSome, IfNone, IsErrOf}
use Rattle.std.proofs.lemmas.Bool.{false≢true}
use Rattle.disk.specs.declared.device.Disk.{Ghosts}
use Rattle.refusal.specs.declared.Refusal.{Refusal}
use Rattle.refusal.specs.declared.Refusal.TheVariants.{JournalFull, StillNeeded, NoMemory, Fault}
use Rattle.revision.specs.Command.{Taken}
use Rattle.recovery.specs.declared.store.Store.{Store}
use Rattle.recovery.specs.Found.{commands_of}
use Rattle.recovery.specs.Faults.{FailsAtFaults}
use Rattle.recovery.specs.Moment.{Receipt}
use Rattle.recovery.specs.Open.{IsOpen, IsCommittedNow, has_failed, has_room}
use Rattle.view.specs.Published.{Published}
use Rattle.flusher.specs.declared.flusher.Flusher.{Flusher}
use Rattle.flusher.specs.Flushers.{IsOneAtMost, IsWritten, IsHeldCommitted}
use Rattle.flusher.specs.Holding.{HasNoRoom, store_of, told_of, committed_of, waiting_of, under_way, opened_of}
use Rattle.flusher.specs.Writing.{HasCommitted, HasPublished, LeavesHeld, IsUnpublished, IsWriteRefused, TellsFaults}
use Rattle.flusher.proofs.Holdings.{no_error, no_batch, same_batch, same_refusal, told_of_error}

memory_not_full : (refusal : Refusal) → refusal ≡ NoMemory → refusal ≢ JournalFull
memory_not_full refusal memory is = cc

memory_not_needed : (refusal : Refusal) → refusal ≡ NoMemory → refusal ≢ StillNeeded
memory_not_needed refusal memory is = cc

pub memory_not_fault : (refusal : Refusal) → refusal ≡ NoMemory → refusal ≢ Fault
memory_not_fault refusal memory is = cc

pub memory_no_fault : {A : Type 0} (refusal : Refusal) → refusal ≡ NoMemory → IsErrOf {T = A} (Err refusal) Fault → ⊥
memory_no_fault refusal memory told = memory_not_fault refusal memory (told_of_error refusal Fault told)

module _ {D L : Type 0} {disk : Ghosts D} where
  -- What the store's commit says of the device's failures, its flusher says of them.
  pub faults_ok : {A B : Type 0} (answer : A) (other : B) {old new : Flusher D L disk} → FailsAtFaults (Ok answer) (store_of old) (store_of new) → TellsFaults (Ok other) old new
  faults_ok answer other faults = record {
    fails = λ works. (λ failed. absurd (no_error answer Fault ((faults.fails works).0 failed)), λ is. absurd (no_error other Fault is));
    failed_before = λ failed batch held. absurd (no_error answer Fault (faults.failed_before failed).0);
  }

  pub faults_err : {A B : Type 0} (refusal : Refusal) {old new : Flusher D L disk} → FailsAtFaults {A = A} (Err refusal) (store_of old) (store_of new) → TellsFaults {A = B} (Err refusal) old new
  faults_err refusal faults = record {
    fails = λ works. (λ failed. same_refusal refusal Fault ((faults.fails works).0 failed), λ is. (faults.fails works).1 (same_refusal refusal Fault is));
    failed_before = λ failed batch held. (same_refusal refusal Fault (faults.failed_before failed).0, (faults.failed_before failed).1);
  }

  -- where no batch was held nothing failed
  pub faults_none : {A : Type 0} (answer : A) {old new : Flusher D L disk} → store_of new ≡ store_of old → waiting_of old ≡ [] → TellsFaults (Ok answer) old new
  faults_none answer {old} {new} same none = record {
    fails = λ works. (λ failed. absurd (false≢true (sym works ∙ ap (λ (s : Store D disk). has_failed s) (sym same) ∙ failed)), λ is. absurd (no_error answer Fault is));
    failed_before = λ failed batch held. absurd (no_batch batch (waiting_of old) none held);
  }

  -- The answer of the commit is that of the write, or the commit was Ok, and the write isn't refused as `Fault`.
  pub faults_refused : {A B : Type 0} (refusal : Refusal) {old new : Flusher D L disk} → TellsFaults {A = A} (Err refusal) old new → TellsFaults {A = B} (Err refusal) old new
  faults_refused refusal told = record {
    fails = λ works. (λ failed. same_refusal refusal Fault ((told.fails works).0 failed), λ is. (told.fails works).1 (same_refusal refusal Fault is));
    failed_before = λ failed batch held. (same_refusal refusal Fault (told.failed_before failed batch held).0, (told.failed_before failed batch held).1);
  }

  pub faults_behind : {A B : Type 0} (answer : A) (result : Result B Refusal) {old mid new : Flusher D L disk} → TellsFaults (Ok answer) old mid → store_of new ≡ store_of mid
      → (IsErrOf result Fault → ⊥) → TellsFaults result old new
  faults_behind answer result told same never = record {
    fails = λ works. (λ failed. absurd (no_error answer Fault ((told.fails works).0 (ap (λ (s : Store D disk). has_failed s) (sym same) ∙ failed))), λ is. absurd (never is));
    failed_before = λ failed batch held. absurd (no_error answer Fault (told.failed_before failed batch held).0);
  }

  -- a batch that is held, and the one that finds no room, are the same
  pub no_room_of : (flusher : Flusher D L disk) (batch : List Taken) → waiting_of flusher ≡ batch ∷ [] → HasNoRoom flusher → has_room (store_of flusher) batch ≡ false
  no_room_of flusher batch held full = ap (has_room (store_of flusher)) (same_batch (waiting_of flusher) batch full.0 held full.1) ∙ full.2

  -- A commit that was Ok, and that frees no segment, has written its batch to an open store as it stands: what had no room it would have refused.
  pub committed_now : {A : Type 0} (answer : A) (old new : Flusher D L disk) (batch : List Taken) → HasCommitted old new → TellsFaults (Ok answer) old new
      → (has_failed (store_of old) ≡ false → HasNoRoom old → IsErrOf (Ok answer) JournalFull) → waiting_of old ≡ batch ∷ []
      → (is_open : IsOpen (store_of old)) → IsCommittedNow batch (store_of old) is_open (store_of new)
  committed_now answer old new batch done faults full held is_open =
      (subst (λ (l : List (List Taken)). IsHeldCommitted l (store_of old) (store_of new)) held done.store).with_room (by_room (has_room (store_of old) batch) refl) is_open
    where
      by_failure : (failed : Bool) → has_failed (store_of old) ≡ failed → HasNoRoom old → ⊥
      by_failure true is none = no_error answer Fault (faults.failed_before is batch held).0
      by_failure false is none = no_error answer JournalFull (full is none)

      by_room : (found : Bool) → has_room (store_of old) batch ≡ found → has_room (store_of old) batch ≡ true
      by_room true is = is
      by_room false is = absurd (by_failure (has_failed (store_of old)) refl (batch, held, is))

  -- what a refused commit leaves, a write leaves
  pub unpublished_held : {refusal : Refusal} {old new : Flusher D L disk} → LeavesHeld refusal old new → IsUnpublished refusal old new
  unpublished_held {refusal} {old} {new} left = record {
    told = left.still.batches.told;
    held = ap (λ (l : List (List Taken)). l ++ waiting_of new) left.still.batches.committed ∙ ap (λ (l : List (List Taken)). committed_of old ++ l) left.still.batches.waiting;
    opened = left.still.batches.opened;
    still = λ other. left.still;
    memory = λ is. inl (left.still.batches.waiting, left.memory is);
  }

  -- memory ran out for the publish
  pub unpublished_behind : {refusal : Refusal} {old mid new : Flusher D L disk} → refusal ≡ NoMemory → HasCommitted old mid → store_of new ≡ store_of mid → waiting_of new ≡ waiting_of mid
      → opened_of new ≡ opened_of mid → new.publisher ≡ mid.publisher → IsUnpublished refusal old new
  unpublished_behind {refusal} {old} {mid} {new} memory done same waits opened publisher =
      let nothing : waiting_of new ≡ [] = waits ∙ done.waiting in
      record {
        told = ap (λ (p : Published). p.told) publisher ∙ done.told;
        held = ap (λ (l : List (List Taken)). committed_of new ++ l) nothing ∙ append-nil (committed_of new) ∙ ap (λ (p : Published). p.unpublished) publisher ∙ done.committed;
        opened = opened ∙ done.opened;
        still = λ other. absurd (other memory);
        memory = λ is. inr (nothing, subst (λ (s : Store D disk). IsHeldCommitted (waiting_of old) (store_of old) s) (sym same) done.store);
      }

  pub refused_by_memory : {refusal : Refusal} {old new : Flusher D L disk} → refusal ≡ NoMemory → IsWriteRefused refusal old new
  refused_by_memory {refusal} memory = record {
    only = inr (inr (inl memory));
    full = λ is. absurd (memory_not_full refusal memory is);
    needed = λ is. absurd (memory_not_needed refusal memory is);
    used_up = λ told. absurd (by_case told);
  }
    where
      by_case : (refusal ≡ JournalFull) ⊎ (refusal ≡ StillNeeded) → ⊥
      by_case (inl is) = memory_not_full refusal memory is
      by_case (inr is) = memory_not_needed refusal memory is

  -- what a publish gave, of what was committed
  pub published_behind : (given : Option (Receipt D × List (List Taken))) {old mid new : Flusher D L disk} → HasCommitted old mid → store_of new ≡ store_of mid → waiting_of new ≡ waiting_of mid
      → opened_of new ≡ opened_of mid → IfSome given (λ p. mid.publisher.unpublished ≡ p.0.batch ∷ []) → IfSome given (λ p. p.1 ≡ mid.publisher.told ++ p.0.batch ∷ [])
      → IfSome given (λ p. new.publisher ≡ record { told = p.1; unpublished = []; moments = mid.publisher.moments })
      → IfNone given ((mid.publisher.unpublished ≡ []) × (new.publisher ≡ mid.publisher)) → IsOneAtMost mid.publisher.unpublished → HasPublished given old new
  published_behind (Some p) {old} {mid} {new} done same waits opened batch told shown none few =
      let one : under_way old ≡ p.0.batch ∷ [] = sym done.committed ∙ batch in
      let shows : told_of new ≡ p.1 = ap (λ (q : Published). q.told) shown in
      let written : IsWritten (told_of old) (under_way old) (told_of new) p.0.batch p.1 = record {
        batch = one;
        published = shows ∙ told ∙ ap (λ (l : List (List Taken)). l ++ p.0.batch ∷ []) done.told ∙ ap (λ (l : List (List Taken)). told_of old ++ l) (sym one);
        token_is = sym shows;
        some = omega (arith, few.1, ap length batch, ap (λ (l : List (List Taken)). length (commands_of l)) batch, length-append p.0.batch []);
      } in
      record {
        some = written;
        none = tt;
        committed = ap (λ (q : Published). q.unpublished) shown;
        waiting = waits ∙ done.waiting;
        state = ap (λ (s : Store D disk). s.state) same ∙ done.state;
        store = subst (λ (s : Store D disk). IsHeldCommitted (waiting_of old) (store_of old) s) (sym same) done.store;
        opened = opened ∙ done.opened;
      }
  published_behind None {old} {mid} {new} done same waits opened batch told shown none few = record {
    some = tt;
    none = (sym done.committed ∙ none.0, ap (λ (q : Published). q.told) none.1 ∙ done.told);
    committed = ap (λ (q : Published). q.unpublished) none.1 ∙ none.0;
    waiting = waits ∙ done.waiting;
    state = ap (λ (s : Store D disk). s.state) same ∙ done.state;
    store = subst (λ (s : Store D disk). IsHeldCommitted (waiting_of old) (store_of old) s) (sym same) done.store;
    opened = opened ∙ done.opened;
  }

  -- what is given on
  pub published_as : (result given : Option (Receipt D × List (List Taken))) {old new : Flusher D L disk} → result ≡ given → HasPublished given old new → HasPublished result old new
  published_as result given {old} {new} is done = subst (λ (o : Option (Receipt D × List (List Taken))). HasPublished o old new) (sym is) done
