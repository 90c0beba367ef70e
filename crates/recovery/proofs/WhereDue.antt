-- A milestone that is refused where something speaks against it, and as that.
use Rattle.std.proofs.Common.{◌≡◌, ◌≢◌, ◌⊎◌, inl, inr, ℕ, true, false, Some, refl, sym, ◌∙◌, ap, subst}
use Rattle.std.specs.Prelude.{Result, Ok, Err, IfErr, IsErrOf, IsErrAnd, [], ◌∷◌, slice_get}
use Rattle.std.proofs.lemmas.Bool.{false≢true}
use Rattle.disk.specs.declared.device.Disk.{Ghosts}
use Rattle.refusal.specs.Refusal.{IsOneOf}
use Rattle.refusal.specs.declared.Refusal.{Refusal}
use Rattle.refusal.specs.declared.Refusal.TheVariants.{JournalFull, Stranger, NoDocument, Future, TooOld, StillNeeded, NoMemory, Fault}
use Rattle.history.specs.Cell.{cells_at}
use Rattle.recovery.specs.declared.store.Store.{Store}
use Rattle.recovery.specs.Cells.{highest_known}
use Rattle.recovery.specs.Jobs.{highest, no_job_for}
use Rattle.recovery.specs.Milestones.{IsRefusedWhereDue}
use Rattle.recovery.specs.Open.{IsOpen, IsUnchanged, state_of, known_cells, has_failed}
use Rattle.recovery.specs.Retiring.{IsUnretired}
use Rattle.recovery.specs.Run.{IsOfStep, MayPut}
use Rattle.recovery.proofs.HandedOut.{none≢some, same_error}
use Rattle.recovery.proofs.PutAtOnce.{may_put, may_put_still}
use Rattle.recovery.proofs.Refusals.{refusal_or, of_if_err}
use Rattle.recovery.proofs.Retirement.{known_highest}

-- memory or the device alone
among_two : (e : Refusal) → (e ≡ NoMemory) ⊎ (e ≡ Fault) → IsOneOf e (NoDocument ∷ Future ∷ TooOld ∷ NoMemory ∷ Fault ∷ [])
among_two e two = inr (inr (inr two))

neither : {P : Type 0} (e : Refusal) → (e ≡ NoMemory) ⊎ (e ≡ Fault) → e ≢ NoMemory → e ≢ Fault → P
neither e (inl memory) no_memory no_fault = absurd (no_memory memory)
neither e (inr fault) no_memory no_fault = absurd (no_fault fault)

among_job : (e : Refusal) → IsOneOf e (NoDocument ∷ Future ∷ TooOld ∷ []) ⊎ (e ≡ NoMemory) → IsOneOf e (NoDocument ∷ Future ∷ TooOld ∷ NoMemory ∷ Fault ∷ [])
among_job e (inl (inl is)) = inl is
among_job e (inl (inr (inl is))) = inr (inl is)
among_job e (inl (inr (inr is))) = inr (inr (inl is))
among_job e (inr is) = inr (inr (inr (inl is)))

-- these are refusals of a step of a run, and none of a commit
pub of_step : (e : Refusal) → IsOneOf e (NoDocument ∷ Future ∷ TooOld ∷ NoMemory ∷ Fault ∷ []) → IsOfStep e
of_step e (inl is) = inr (inl (inl is))
of_step e (inr (inl is)) = inr (inl (inr (inl is)))
of_step e (inr (inr (inl is))) = inr (inl (inr (inr is)))
of_step e (inr (inr (inr two))) = inr (inr (inr two))

not_of_commit : (e : Refusal) → IsOneOf e (NoDocument ∷ Future ∷ TooOld ∷ NoMemory ∷ Fault ∷ []) → (e ≡ JournalFull) ⊎ (e ≡ Stranger) → ⊥
not_of_commit e (inl is) (inl two) = let same : NoDocument ≡ JournalFull = sym is ∙ two in cc
not_of_commit e (inr (inl is)) (inl two) = let same : Future ≡ JournalFull = sym is ∙ two in cc
not_of_commit e (inr (inr (inl is))) (inl two) = let same : TooOld ≡ JournalFull = sym is ∙ two in cc
not_of_commit e (inr (inr (inr (inl is)))) (inl two) = let same : NoMemory ≡ JournalFull = sym is ∙ two in cc
not_of_commit e (inr (inr (inr (inr is)))) (inl two) = let same : Fault ≡ JournalFull = sym is ∙ two in cc
not_of_commit e (inl is) (inr two) = let same : NoDocument ≡ Stranger = sym is ∙ two in cc
not_of_commit e (inr (inl is)) (inr two) = let same : Future ≡ Stranger = sym is ∙ two in cc
not_of_commit e (inr (inr (inl is))) (inr two) = let same : TooOld ≡ Stranger = sym is ∙ two in cc
not_of_commit e (inr (inr (inr (inl is)))) (inr two) = let same : NoMemory ≡ Stranger = sym is ∙ two in cc
not_of_commit e (inr (inr (inr (inr is)))) (inr two) = let same : Fault ≡ Stranger = sym is ∙ two in cc

pub never_of_commit : {A : Type 0} (result : Result A Refusal) (e : Refusal) → IfErr result (λ e. IsOneOf e (NoDocument ∷ Future ∷ TooOld ∷ NoMemory ∷ Fault ∷ []))
    → (e ≡ JournalFull) ⊎ (e ≡ Stranger) → IsErrOf result e → ⊥
never_of_commit result e only two told = not_of_commit e (of_if_err _ result e told only) two

pub of_retirement : (e : Refusal) → IsOneOf e (StillNeeded ∷ Fault ∷ []) → IsOfStep e
of_retirement e (inl is) = inr (inr (inl is))
of_retirement e (inr is) = inr (inr (inr (inr is)))

of_neither : (e : Refusal) → IsOneOf e (StillNeeded ∷ Fault ∷ []) → (e ≡ JournalFull) ⊎ (e ≡ Stranger) → ⊥
of_neither e (inl is) (inl two) = let same : StillNeeded ≡ JournalFull = sym is ∙ two in cc
of_neither e (inr is) (inl two) = let same : Fault ≡ JournalFull = sym is ∙ two in cc
of_neither e (inl is) (inr two) = let same : StillNeeded ≡ Stranger = sym is ∙ two in cc
of_neither e (inr is) (inr two) = let same : Fault ≡ Stranger = sym is ∙ two in cc

pub never_retires : {A : Type 0} (result : Result A Refusal) (e : Refusal) → IfErr result (λ e. IsOneOf e (StillNeeded ∷ Fault ∷ []))
    → (e ≡ JournalFull) ⊎ (e ≡ Stranger) → IsErrOf result e → ⊥
never_retires result e only two told = of_neither e (of_if_err _ result e told only) two

module _ {D : Type 0} {disk : Ghosts D} (old new : Store D disk) where
  -- a retirement that the device did not refuse left all unchanged
  pub unretired : {A : Type 0} (result : Result A Refusal) → IfErr result (λ e. IsOneOf e (StillNeeded ∷ Fault ∷ [])) → IfErr result (λ e. IsUnretired e old new)
      → IfErr result (λ e. e ≢ NoMemory → e ≢ Fault → IsUnchanged old new)
  unretired (Ok answer) only left = tt
  unretired (Err e) (inl is) left = λ memory fault. left.untouched is
  unretired (Err e) (inr is) left = λ memory fault. absurd (fault is)

module _ {D : Type 0} {disk : Ghosts D} (document revision : ℕ) (old : Store D disk) where
  -- the cells that are known are those of an open store
  known_open : (is_open : IsOpen old) → no_job_for (slice_get (state_of old).documents document) (highest_known (known_cells old) document) revision
      ≡ no_job_for (slice_get (state_of old).documents document) (highest (cells_at is_open.cells document)) revision
  known_open is_open = ap (λ n. no_job_for (slice_get (state_of old).documents document) n revision) (known_highest old is_open document)

  module _ {A : Type 0} where
    refused_by : (e : Refusal) → IsOneOf e (NoDocument ∷ Future ∷ TooOld ∷ NoMemory ∷ Fault ∷ [])
        → (e ≢ NoMemory → e ≢ Fault → no_job_for (slice_get (state_of old).documents document) (highest_known (known_cells old) document) revision ≡ Some e)
        → (has_failed old ≡ false → (why : Refusal) → no_job_for (slice_get (state_of old).documents document) (highest_known (known_cells old) document) revision ≡ Some why
        → IsErrOf {T = A} (Err e) why) → IsRefusedWhereDue {A = A} document revision (Err e) old
    refused_by e only known due = record {
      only = only;
      known = known;
      why = λ memory fault is_open. sym (known_open is_open) ∙ known memory fault;
      due = due;
      due_open = λ works is_open why is. due works why (known_open is_open ∙ is);
    }

    -- nothing speaks against it, and it is Ok
    pub due_ok : (answer : A) → MayPut document revision old → IsRefusedWhereDue document revision (Ok answer) old
    due_ok answer may = record {
      only = tt;
      known = tt;
      why = tt;
      due = λ works why is. absurd (none≢some (sym may ∙ is));
      due_open = λ works is_open why is. absurd (none≢some (sym may ∙ known_open is_open ∙ is));
    }

    -- nothing speaks against it, and memory or the device refuses it
    pub due_none : (e : Refusal) → MayPut document revision old → (e ≡ NoMemory) ⊎ (e ≡ Fault) → IsRefusedWhereDue {A = A} document revision (Err e) old
    due_none e may two = refused_by e (among_two e two) (neither e two) (λ works why is. absurd (none≢some (sym may ∙ is)))

    pub due_memory : (result : Result A Refusal) → IsErrAnd result (λ e. e ≡ NoMemory) → MayPut document revision old → IsRefusedWhereDue document revision result old
    due_memory (Ok answer) told may = absurd told
    due_memory (Err e) told may = due_none e may (inl told)

    -- the store had failed
    pub due_failed : has_failed old ≡ true → IsRefusedWhereDue {A = A} document revision (Err Fault) old
    due_failed failed = refused_by Fault (inr (inr (inr (inr refl)))) (λ memory fault. absurd (fault refl)) (λ works why is. absurd (false≢true (sym works ∙ failed)))

    -- its job is refused
    pub due_of : (result : Result A Refusal) (e : Refusal) → result ≡ Err e → IsOneOf e (NoDocument ∷ Future ∷ TooOld ∷ []) ⊎ (e ≡ NoMemory)
        → (e ≢ NoMemory → no_job_for (slice_get (state_of old).documents document) (highest_known (known_cells old) document) revision ≡ Some e)
        → ((why : Refusal) → no_job_for (slice_get (state_of old).documents document) (highest_known (known_cells old) document) revision ≡ Some why
        → IsErrOf result why) → IsRefusedWhereDue {A = A} document revision (Err e) old
    due_of result e is only known due =
        refused_by e (among_job e only) (λ memory fault. known memory) (λ works why says. ap (λ (r : Refusal). Err r) (same_error result e why is (due why says)))

    -- nothing speaks against a milestone whose job was given, nor where memory ran out for it
    pub may_by : (answer : A) → has_failed old ≡ false → IsRefusedWhereDue document revision (Ok answer) old → MayPut document revision old
    may_by answer works told = may_put old document revision answer (λ why is. told.due works why is)

    pub may_by_memory : (e : Refusal) → e ≡ NoMemory → has_failed old ≡ false → IsRefusedWhereDue {A = A} document revision (Err e) old → MayPut document revision old
    may_by_memory e memory works told = may_put_still {A = A} old document revision e memory (λ why is. told.due works why is)

  -- told by another answer
  pub due_told : {A B : Type 0} (e : Refusal) → IsRefusedWhereDue {A = A} document revision (Err e) old → IsRefusedWhereDue {A = B} document revision (Err e) old
  due_told {A} e told =
      refused_by e told.only told.known (λ works why is. ap (λ (r : Refusal). Err r) (ap (refusal_or {T = A} why) (told.due works why is)))

  pub due_as : {A : Type 0} (result : Result A Refusal) (e : Refusal) → result ≡ Err e → IsRefusedWhereDue {A = A} document revision (Err e) old
      → IsRefusedWhereDue document revision result old
  due_as {A} result e is told = subst (λ (r : Result A Refusal). IsRefusedWhereDue document revision r old) (sym is) told
