-- What is refused for the old device, and what for the new one.
use Rattle.std.proofs.Common.{◌≡◌, ◌⊎◌, inl, inr, List, ℕ, [], ◌∷◌, Result, Ok, Err, ◌∙◌, ap}
use Rattle.std.specs.Prelude.{OnOk, IfErr}
use Rattle.refusal.specs.Refusal.{IsOneOf}
use Rattle.refusal.specs.declared.Refusal.{Refusal}
use Rattle.refusal.specs.declared.Refusal.TheVariants.{NotFormatted, OldFormat, NotOld, Damaged, BadShape, AlreadyFormatted, NoMemory, Fault}
use Rattle.disk.specs.declared.device.Disk.{Ghosts}
use Rattle.disk.specs.Calls.{CountsFaultsAs}
use Rattle.disk.specs.Crash.{history_of}
use Rattle.disk.specs.Device.{Rose}
use Rattle.milestone.specs.declared.format.Format.{Format}
use Rattle.recovery.specs.Formatting.{IsUnformatted, IsOnlySynced}
use Rattle.recovery.specs.Layout.{IsFormatted}
use Rattle.migration.specs.Brought.{HadStore, ReadingIsRefused, IsMadeStore, MakingIsRefused, BringingIsRefused}
use Rattle.migration.proofs.Moments.{same}

-- ---- what each refusal tells of

-- this tells of the old device alone
abbrev IsOfOld : Refusal → Type 0
IsOfOld refusal = IsOneOf refusal (NotFormatted ∷ OldFormat ∷ NotOld ∷ Damaged ∷ [])

-- this of the new one alone
abbrev IsOfNew : Refusal → Type 0
IsOfNew refusal = IsOneOf refusal (AlreadyFormatted ∷ BadShape ∷ [])

-- and this of neither
abbrev IsOfNone : Refusal → Type 0
IsOfNone refusal = IsOneOf refusal (NoMemory ∷ Fault ∷ [])

old_isnt_new : (refusal : Refusal) → IsOfOld refusal → IsOfNew refusal → ⊥
old_isnt_new refusal (inl not_formatted) (inl formatted) = cc
old_isnt_new refusal (inl not_formatted) (inr shape) = cc
old_isnt_new refusal (inr (inl old_format)) (inl formatted) = cc
old_isnt_new refusal (inr (inl old_format)) (inr shape) = cc
old_isnt_new refusal (inr (inr (inl not_old))) (inl formatted) = cc
old_isnt_new refusal (inr (inr (inl not_old))) (inr shape) = cc
old_isnt_new refusal (inr (inr (inr damaged))) (inl formatted) = cc
old_isnt_new refusal (inr (inr (inr damaged))) (inr shape) = cc

old_isnt_none : (refusal : Refusal) → IsOfOld refusal → IsOfNone refusal → ⊥
old_isnt_none refusal (inl not_formatted) (inl memory) = cc
old_isnt_none refusal (inl not_formatted) (inr fault) = cc
old_isnt_none refusal (inr (inl old_format)) (inl memory) = cc
old_isnt_none refusal (inr (inl old_format)) (inr fault) = cc
old_isnt_none refusal (inr (inr (inl not_old))) (inl memory) = cc
old_isnt_none refusal (inr (inr (inl not_old))) (inr fault) = cc
old_isnt_none refusal (inr (inr (inr damaged))) (inl memory) = cc
old_isnt_none refusal (inr (inr (inr damaged))) (inr fault) = cc

new_isnt_none : (refusal : Refusal) → IsOfNew refusal → IsOfNone refusal → ⊥
new_isnt_none refusal (inl formatted) (inl memory) = cc
new_isnt_none refusal (inl formatted) (inr fault) = cc
new_isnt_none refusal (inr shape) (inl memory) = cc
new_isnt_none refusal (inr shape) (inr fault) = cc

-- ---- the old device

module _ {for_other : Refusal} (is_old : (for_other ≡ OldFormat) ⊎ (for_other ≡ NotOld)) where
  -- the refusals that a reading tells the device's content by
  of_old : {refusal : Refusal} → (refusal ≡ NotFormatted) ⊎ ((refusal ≡ for_other) ⊎ (refusal ≡ Damaged)) → IsOfOld refusal
  of_old (inl not_formatted) = inl not_formatted
  of_old (inr (inl told)) = elim is_old [
    | inl old_format ↦ inr (inl (told ∙ old_format))
    | inr not_old ↦ inr (inr (inl (told ∙ not_old)))
  ]
  of_old (inr (inr damaged)) = inr (inr (inr damaged))

module _ {A : Type 0} {disk : Ghosts A} {format other : Format} {for_other : Refusal} (is_old : (for_other ≡ OldFormat) ⊎ (for_other ≡ NotOld)) where
  -- another one tells nothing of it
  pub tells_nothing : (refusal : Refusal) (old new : A) → (IsOfOld refusal → ⊥) → ReadingIsRefused disk format other for_other refusal old new
  tells_nothing refusal old new never = record {
    not_formatted = λ told. absurd (never (of_old is_old (inl told)));
    other_format = λ told. absurd (never (of_old is_old (inr (inl told))));
    damaged = λ told. absurd (never (of_old is_old (inr (inr told))));
  }

  pub memory_tells_nothing : (refusal : Refusal) (old new : A) → refusal ≡ NoMemory → ReadingIsRefused disk format other for_other refusal old new
  memory_tells_nothing refusal old new memory = tells_nothing refusal old new (λ of. old_isnt_none refusal of (inl memory))

-- ---- the new device

module _ {B : Type 0} (disk : Ghosts B) where
  -- what formatting promises, in one
  pub made_by : (Is : List ℕ → Type 0) (old new : B) (result : Result (Unit {0}) Refusal) → OnOk result (Is (disk.seen new)) → OnOk result (disk.unsynced new ≡ [])
      → (disk.honest new → IsFormatted (disk.seen old) → (result ≡ Err AlreadyFormatted) ⊎ (result ≡ Err Fault)) → OnOk result (IsMadeStore disk Is old new)
  made_by Is old new (Ok done) is synced formatted = record {
    is = is;
    synced = synced;
    had_none = λ honest has. elim (formatted honest has) [
      | inl already ↦ absurd (cc)
      | inr fault ↦ absurd (cc)
    ];
  }
  made_by Is old new (Err refusal) is synced formatted = tt

  pub refused_by : (Unfit : Type 0) (old new : B) (result : Result (Unit {0}) Refusal)
      → (disk.honest new → IsFormatted (disk.seen old) → (result ≡ Err AlreadyFormatted) ⊎ (result ≡ Err Fault))
      → (result ≡ Err AlreadyFormatted → disk.honest new → IsFormatted (disk.seen old)) → (result ≡ Err BadShape → Unfit)
      → IfErr result (λ e. (e ≡ Fault) ⊎ ((e ≡ NoMemory) ⊎ IsOnlySynced (history_of disk old) (history_of disk new)))
      → (result ≡ Err NoMemory → IsUnformatted (disk.seen old) → IsUnformatted (disk.seen new)) → IfErr result (λ e. MakingIsRefused disk Unfit e old new)
  refused_by Unfit old new (Ok done) formatted already unfit unwritten memory = tt
  refused_by Unfit old new (Err refusal) formatted already unfit unwritten memory = record {
    already_formatted = λ told. already (ap (λ e. Err e) told);
    formatted_first = λ told honest has. elim (formatted honest has) [
      | inl is ↦ absurd (cc)
      | inr is ↦ absurd (cc)
    ];
    unfit = λ told. unfit (ap (λ e. Err e) told);
    unwritten = unwritten;
    memory = λ told. memory (ap (λ e. Err e) told);
  }

  -- what tells nothing of it, and leaves it unchanged
  pub nothing_made : (Unfit : Type 0) (refusal : Refusal) (device : B) → (IsOfNew refusal → ⊥) → MakingIsRefused disk Unfit refusal device device
  nothing_made Unfit refusal device never = record {
    already_formatted = λ told. absurd (never (inl told));
    formatted_first = λ told. absurd (never (inr told));
    unfit = λ told. absurd (never (inr told));
    unwritten = inr (inr (same _));
    memory = λ told closed. closed;
  }

  pub no_memory_made : (Unfit : Type 0) (refusal : Refusal) (device : B) → refusal ≡ NoMemory → MakingIsRefused disk Unfit refusal device device
  no_memory_made Unfit refusal device memory = nothing_made Unfit refusal device (λ of. new_isnt_none refusal of (inl memory))

-- ---- both

module _ {A B : Type 0} (a : Ghosts A) (b : Ghosts B) (format other : Format) (for_other : Refusal) (is_old : (for_other ≡ OldFormat) ⊎ (for_other ≡ NotOld)) (Unfit : Type 0)
    (from from_now : A) where
  -- the old device is refused, and the new one untouched
  pub refused_by_old : (refusal : Refusal) (to : B) → IsOneOf refusal (NotFormatted ∷ for_other ∷ Damaged ∷ NoMemory ∷ Fault ∷ [])
      → ReadingIsRefused a format other for_other refusal from from_now → (refusal ≡ Fault → Rose (a.faults from) (a.faults from_now))
      → BringingIsRefused a b format other for_other Unfit refusal from from_now to to
  refused_by_old refusal to only why failed = record {
    only = one only;
    of_old = why;
    of_new = nothing_made b Unfit refusal to (not_new only);
    old_first = λ told. absurd (not_new only told);
    failed = λ told. inl (failed told);
  }
    where
      one : IsOneOf refusal (NotFormatted ∷ for_other ∷ Damaged ∷ NoMemory ∷ Fault ∷ [])
          → IsOneOf refusal (NotFormatted ∷ for_other ∷ Damaged ∷ BadShape ∷ AlreadyFormatted ∷ NoMemory ∷ Fault ∷ [])
      one (inl not_formatted) = inl not_formatted
      one (inr (inl told)) = inr (inl told)
      one (inr (inr (inl damaged))) = inr (inr (inl damaged))
      one (inr (inr (inr none))) = inr (inr (inr (inr (inr none))))

      not_new : IsOneOf refusal (NotFormatted ∷ for_other ∷ Damaged ∷ NoMemory ∷ Fault ∷ []) → IsOfNew refusal → ⊥
      not_new (inl not_formatted) of = old_isnt_new refusal (inl not_formatted) of
      not_new (inr (inl told)) of = old_isnt_new refusal (of_old is_old (inr (inl told))) of
      not_new (inr (inr (inl damaged))) of = old_isnt_new refusal (inr (inr (inr damaged))) of
      not_new (inr (inr (inr none))) of = new_isnt_none refusal of none

  -- a store was found, and the new device is refused
  pub refused_by_new : (result : Result (Unit {0}) Refusal) (Refused : Type 0) (to to_now : B) → HadStore a format from from_now → (Refused → Unfit)
      → IfErr result (λ e. MakingIsRefused b Refused e to to_now) → IfErr result (λ e. IsOneOf e (BadShape ∷ AlreadyFormatted ∷ NoMemory ∷ Fault ∷ []))
      → CountsFaultsAs b Fault result to to_now → IfErr result (λ e. BringingIsRefused a b format other for_other Unfit e from from_now to to_now)
  refused_by_new (Ok done) Refused to to_now found told why only counts = tt
  refused_by_new (Err refusal) Refused to to_now found told why only counts = record {
    only = inr (inr (inr only));
    of_old = tells_nothing is_old refusal from from_now (not_old only);
    of_new = record {
      already_formatted = why.already_formatted;
      formatted_first = why.formatted_first;
      unfit = λ is. told (why.unfit is);
      unwritten = why.unwritten;
      memory = why.memory;
    };
    old_first = λ is. found;
    failed = λ is. inr (counts.failed (ap (λ e. Err e) is));
  }
    where
      not_old : IsOneOf refusal (BadShape ∷ AlreadyFormatted ∷ NoMemory ∷ Fault ∷ []) → IsOfOld refusal → ⊥
      not_old (inl shape) of = old_isnt_new refusal of (inr shape)
      not_old (inr (inl formatted)) of = old_isnt_new refusal of (inl formatted)
      not_old (inr (inr none)) of = old_isnt_none refusal of none
