-- What a refusal of a milestone or of a retirement answers.
use Rattle.std.proofs.Common.{◌≡◌, ◌≢◌, ◌↔◌, ◌⊎◌, inl, inr, ℕ, Bool, true, false, sym, ◌∙◌, ap, subst}
use Rattle.std.specs.Prelude.{Option, Some, None, Result, Ok, Err, OnOk, IfOk, IfErr, IfSome, IsErrOf}
use Rattle.std.proofs.lemmas.Bool.{false≢true}
use Rattle.disk.specs.declared.device.Disk.{Ghosts}
use Rattle.refusal.specs.declared.Refusal.{Refusal}
use Rattle.refusal.specs.declared.Refusal.TheVariants.{StillNeeded, NoMemory, Fault}
use Rattle.recovery.specs.declared.store.Store.{Store}
use Rattle.recovery.specs.declared.run.StoreStep.TheVariants.{Milestone as PutsMilestone, Retire as Retires}
use Rattle.recovery.specs.Open.{IsUnchanged, has_failed}
use Rattle.recovery.specs.Run.{IsTaken, IsWhy}
use Rattle.lives.specs.declared.calls.Answer.{Answer}
use Rattle.lives.specs.declared.calls.Answer.TheVariants.{Put, Retired, Refused}
use Rattle.flusher.proofs.CallerLemmas.{told_of_error, no_error}
use Rattle.lives.specs.Driving.{stop_of}
pub use Rattle.std.proofs.lemmas.Bool.{false_from_ne_true as unfailed}

memory_not_fault : NoMemory ≡ Fault → ⊥
memory_not_fault is = cc

needed_not_memory : StillNeeded ≡ NoMemory → ⊥
needed_not_memory is = cc

module _ {D : Type 0} {disk : Ghosts D} where
  -- a store that works, where a call was refused as out of memory alone
  pub fails_not : {T : Type 0} (store : Store D disk) (result : Result T Refusal) → has_failed store ≡ false → IfErr result (λ e. e ≡ NoMemory) → has_failed store ≡ true ↔ IsErrOf result Fault
  fails_not store (Ok answer) works only = (λ failed. absurd (false≢true (sym works ∙ failed)), λ is. absurd (no_error answer Fault is))
  fails_not store (Err refusal) works only = (λ failed. absurd (false≢true (sym works ∙ failed)), λ is. absurd (memory_not_fault (sym only ∙ told_of_error refusal Fault is)))

module _ {D L : Type 0} {disk : Ghosts D} (store : Store D disk) (refusal : Refusal) where
  pub answer_works : (result : Result (Answer D L) Refusal) → IfOk result (λ reply. (reply ≡ Refused refusal) × (refusal ≢ NoMemory) × (refusal ≢ Fault))
      → (has_failed store ≡ true ↔ IsErrOf {T = Unit {0}} (Err refusal) Fault) → OnOk result (has_failed store ≡ false)
  answer_works (Ok reply) answer fails = unfailed (has_failed store) (λ failed. answer.2 (told_of_error refusal Fault (fails.0 failed)))
  answer_works (Err e) answer fails = tt

  pub answer_fails : (result : Result (Answer D L) Refusal) → IfOk result (λ reply. (reply ≡ Refused refusal) × (refusal ≢ NoMemory) × (refusal ≢ Fault))
      → IfErr result (λ e. (e ≡ refusal) × ((e ≡ NoMemory) ⊎ (e ≡ Fault)))
      → (has_failed store ≡ true ↔ IsErrOf {T = Unit {0}} (Err refusal) Fault) → has_failed store ≡ true ↔ IsErrOf result Fault
  answer_fails (Ok reply) answer stops fails = (λ failed. absurd (answer.2 (told_of_error refusal Fault (fails.0 failed))), λ is. absurd (no_error reply Fault is))
  answer_fails (Err e) answer stops fails = (
    λ failed. ap (λ (r : Refusal). Err r) (stops.0 ∙ told_of_error refusal Fault (fails.0 failed)),
    λ is. fails.1 (ap (λ (r : Refusal). Err r) (sym stops.0 ∙ told_of_error e Fault is)),
  )

module _ {D L : Type 0} {disk : Ghosts D} (old new : Store D disk) (refusal : Refusal) where
  pub answer_put : (document revision : ℕ) (result : Result (Answer D L) Refusal) → IfOk result (λ reply. (reply ≡ Refused refusal) × (refusal ≢ NoMemory) × (refusal ≢ Fault))
      → (refusal ≢ NoMemory → refusal ≢ Fault → IsWhy (PutsMilestone document revision) refusal old) → (refusal ≢ NoMemory → refusal ≢ Fault → IsUnchanged old new)
      → IfOk result (λ reply. ((reply ≡ Put) × IsTaken (PutsMilestone document revision) old new)
      ⊎ ((r : Refusal) × (reply ≡ Refused r) × IsUnchanged old new × IsWhy (PutsMilestone document revision) r old))
  answer_put document revision (Ok reply) answer why untouched = inr (refusal, answer.0, untouched answer.1 answer.2, why answer.1 answer.2)
  answer_put document revision (Err e) answer why untouched = tt

  pub answer_retired : (result : Result (Answer D L) Refusal) → IfOk result (λ reply. (reply ≡ Refused refusal) × (refusal ≢ NoMemory) × (refusal ≢ Fault))
      → (refusal ≢ Fault → IsWhy Retires refusal old) → (IsErrOf {T = Unit {0}} (Err refusal) StillNeeded → IsUnchanged old new)
      → IfOk result (λ reply. ((reply ≡ Retired) × IsTaken Retires old new) ⊎ ((r : Refusal) × (reply ≡ Refused r) × IsUnchanged old new × IsWhy Retires r old))
  answer_retired (Ok reply) answer why untouched =
      let needed = why answer.2 in
      inr (refusal, answer.0, untouched (ap (λ (r : Refusal). Err r) needed.0), needed)
  answer_retired (Err e) answer why untouched = tt

module _ {D L : Type 0} (refusal : Refusal) where
  pub answer_only : (result : Result (Answer D L) Refusal) → IfErr result (λ e. (e ≡ refusal) × ((e ≡ NoMemory) ⊎ (e ≡ Fault))) → IfErr result (λ e. (e ≡ NoMemory) ⊎ (e ≡ Fault))
  answer_only (Ok reply) stops = tt
  answer_only (Err e) stops = stops.1

  pub answer_memory : (result : Result (Answer D L) Refusal) → IfErr result (λ e. (e ≡ refusal) × ((e ≡ NoMemory) ⊎ (e ≡ Fault))) → IsErrOf result NoMemory
      → refusal ≡ NoMemory
  answer_memory (Ok reply) stops is = absurd (no_error reply NoMemory is)
  answer_memory (Err e) stops is = sym stops.0 ∙ told_of_error e NoMemory is

  pub answer_fault : (result : Result (Answer D L) Refusal) → IfErr result (λ e. (e ≡ refusal) × ((e ≡ NoMemory) ⊎ (e ≡ Fault))) → (refusal ≡ StillNeeded) ⊎ (refusal ≡ Fault)
      → IfErr result (λ e. e ≡ Fault)
  answer_fault (Ok reply) stops only = tt
  answer_fault (Err e) (same, inr fault) only = fault
  answer_fault (Err e) (same, inl memory) (inl needed) = absurd (needed_not_memory (sym needed ∙ sym same ∙ memory))
  answer_fault (Err e) (same, inl memory) (inr fault) = same ∙ fault

-- what stopped a run, by how its calls ended
stopped_not : {A : Type 0} (a : A) → Some a ≡ None → ⊥
stopped_not a is = let no : ⊥ = cc in no

abbrev stopped_as : Option Refusal → Refusal → Refusal
stopped_as None none = none
stopped_as (Some refusal) none = refusal

fails_by : (failed : Bool) (ended : Result (Unit {0}) Refusal) → (failed ≡ true ↔ IsErrOf ended Fault) → failed ≡ true ↔ stop_of ended ≡ Some Fault
fails_by failed (Ok done) fails = (λ is. absurd (no_error done Fault (fails.0 is)), λ is. absurd (stopped_not Fault (sym is)))
fails_by failed (Err refusal) fails = (
  λ is. ap (λ (r : Refusal). Some r) (told_of_error refusal Fault (fails.0 is)),
  λ is. fails.1 (ap (λ (r : Refusal). Err r) (ap (λ o. stopped_as o refusal) is)),
)

pub stop_fails : (failed : Bool) (ended : Result (Unit {0}) Refusal) (stopped : Option Refusal) → stopped ≡ stop_of ended → (failed ≡ true ↔ IsErrOf ended Fault) → failed ≡ true ↔ stopped ≡ Some Fault
stop_fails failed ended stopped is fails = subst (λ (o : Option Refusal). failed ≡ true ↔ o ≡ Some Fault) (sym is) (fails_by failed ended fails)

none_by : {T : Type 0} (ended : Result (Unit {0}) Refusal) → OnOk ended T → stop_of ended ≡ None → T
none_by (Ok done) holds is = holds
none_by (Err refusal) holds is = absurd (stopped_not refusal is)

pub stop_none : {T : Type 0} (ended : Result (Unit {0}) Refusal) (stopped : Option Refusal) → stopped ≡ stop_of ended → OnOk ended T → stopped ≡ None → T
stop_none ended stopped is holds none = none_by ended holds (sym is ∙ none)

some_by : (P : Refusal → Type 0) (ended : Result (Unit {0}) Refusal) → IfErr ended P → IfSome (stop_of ended) P
some_by P (Ok done) holds = tt
some_by P (Err refusal) holds = holds

pub stop_some : (P : Refusal → Type 0) (ended : Result (Unit {0}) Refusal) (stopped : Option Refusal) → stopped ≡ stop_of ended → IfErr ended P → IfSome stopped P
stop_some P ended stopped is holds = subst (λ (o : Option Refusal). IfSome o P) (sym is) (some_by P ended holds)
