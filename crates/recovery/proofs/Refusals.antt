-- What is refused, whatever was asked for.
use Rattle.std.proofs.Common.{◌≡◌, ◌⊎◌, inl, inr, refl, sym, ◌∙◌, ap, subst}
use Rattle.std.specs.Prelude.{Result, Ok, Err, OnOk, OnErr, IfOk, IfErr, IsErrOf}
use Rattle.refusal.specs.declared.Refusal.{Refusal}
use Rattle.refusal.specs.declared.Refusal.TheVariants.{JournalFull, Stranger, NoMemory, Fault}

-- the refusal of a result, or this one where there is none
abbrev pub refusal_or : {T : Type 0} → Refusal → Result T Refusal → Refusal
refusal_or other (Ok value) = other
refusal_or other (Err refusal) = refusal

-- an Ok tells no refusal
pub ok≢err : {T : Type 0} (value : T) (refusal : Refusal) → ◌≡◌ {A = Result T Refusal} (Ok value) (Err refusal) → ⊥
ok≢err value refusal is = cc

-- `NoMemory` isn't `Fault`
pub memory_no_fault : {refusal : Refusal} → refusal ≡ NoMemory → refusal ≡ Fault → ⊥
memory_no_fault memory fault = let same : NoMemory ≡ Fault = sym memory ∙ fault in cc

-- nor is `JournalFull`
pub full_no_fault : {refusal : Refusal} → refusal ≡ JournalFull → refusal ≡ Fault → ⊥
full_no_fault full fault = let same : JournalFull ≡ Fault = sym full ∙ fault in cc

-- what holds of each refusal that a result may be, and of an Ok
pub if_err : {T : Type 0} (P : Refusal → Type 0) (result : Result T Refusal) → ((e : Refusal) → result ≡ Err e → P e) → IfErr result P
if_err P (Ok value) has = tt
if_err P (Err refusal) has = has refusal refl

pub on_ok_by : {T : Type 0} {P : Type 0} (result : Result T Refusal) → ((value : T) → result ≡ Ok value → P) → OnOk result P
on_ok_by (Ok value) has = has value refl
on_ok_by (Err refusal) has = tt

-- and what is told of a result, of the one that it is
pub of_err : {T : Type 0} {P : Type 0} (result : Result T Refusal) (e : Refusal) → result ≡ Err e → OnErr result P → P
of_err (Ok value) e is has = absurd (ok≢err value e is)
of_err (Err refusal) e is has = has

pub of_if_err : {T : Type 0} (P : Refusal → Type 0) (result : Result T Refusal) (e : Refusal) → result ≡ Err e → IfErr result P → P e
of_if_err P (Ok value) e is has = absurd (ok≢err value e is)
of_if_err {T} P (Err refusal) e is has = subst P (ap (refusal_or {T = T} e) is) has

pub on_ok_from : {T : Type 0} {Q : Type 0} (P : T → Type 0) (result : Result T Refusal) → ((value : T) → P value → Q) → IfOk result P → OnOk result Q
on_ok_from P (Ok value) gives has = gives value has
on_ok_from P (Err refusal) gives has = tt

pub of_ok : {T : Type 0} {P : Type 0} (result : Result T Refusal) (value : T) → result ≡ Ok value → OnOk result P → P
of_ok (Ok one) value is has = has
of_ok (Err refusal) value is has = absurd (ok≢err value refusal (sym is))

-- what holds of each refusal holds of the one that a result is
pub each_err : {T : Type 0} {P Q : Refusal → Type 0} (result : Result T Refusal) → ((e : Refusal) → P e → Q e) → IfErr result P → IfErr result Q
each_err (Ok value) implies has = tt
each_err (Err refusal) implies has = implies refusal has

-- what an append to the ring answers is no stranger
pub no_stranger : (refusal : Refusal) → (refusal ≡ JournalFull) ⊎ ((refusal ≡ NoMemory) ⊎ (refusal ≡ Fault)) → refusal ≡ Stranger → ⊥
no_stranger refusal (inl full) is = let same : JournalFull ≡ Stranger = sym full ∙ is in cc
no_stranger refusal (inr (inl memory)) is = let same : NoMemory ≡ Stranger = sym memory ∙ is in cc
no_stranger refusal (inr (inr fault)) is = let same : Fault ≡ Stranger = sym fault ∙ is in cc

-- but a commit tells all that it may answer
pub or_stranger : (refusal : Refusal) → (refusal ≡ JournalFull) ⊎ ((refusal ≡ NoMemory) ⊎ (refusal ≡ Fault))
    → (refusal ≡ JournalFull) ⊎ ((refusal ≡ Stranger) ⊎ ((refusal ≡ NoMemory) ⊎ (refusal ≡ Fault)))
or_stranger refusal (inl full) = inl full
or_stranger refusal (inr others) = inr (inr others)

-- neither a stranger nor the end of memory is a fault of the device
pub no_fault : (refusal : Refusal) → (refusal ≡ Stranger) ⊎ (refusal ≡ NoMemory) → refusal ≡ Fault → ⊥
no_fault refusal (inl is) fault = let same : Stranger ≡ Fault = sym is ∙ fault in cc
no_fault refusal (inr is) fault = let same : NoMemory ≡ Fault = sym is ∙ fault in cc

-- nor a journal that is full, and a commit tells each of them
pub never_full : (refusal : Refusal) → (refusal ≡ Stranger) ⊎ (refusal ≡ NoMemory) → refusal ≡ JournalFull → ⊥
never_full refusal (inl is) full = let same : Stranger ≡ JournalFull = sym is ∙ full in cc
never_full refusal (inr is) full = let same : NoMemory ≡ JournalFull = sym is ∙ full in cc

pub or_full_or_fault : (refusal : Refusal) → (refusal ≡ Stranger) ⊎ (refusal ≡ NoMemory)
    → (refusal ≡ JournalFull) ⊎ ((refusal ≡ Stranger) ⊎ ((refusal ≡ NoMemory) ⊎ (refusal ≡ Fault)))
or_full_or_fault refusal (inl stranger) = inr (inl stranger)
or_full_or_fault refusal (inr memory) = inr (inr (inl memory))

-- an append to the ring takes no memory
full_or_fault : (refusal : Refusal) → (refusal ≡ JournalFull) ⊎ (refusal ≡ Fault) → refusal ≡ NoMemory → ⊥
full_or_fault refusal (inl full) is = let same : JournalFull ≡ NoMemory = sym full ∙ is in cc
full_or_fault refusal (inr fault) is = let same : Fault ≡ NoMemory = sym fault ∙ is in cc

pub takes_no_memory : {T : Type 0} (result : Result T Refusal) → IfErr result (λ e. (e ≡ JournalFull) ⊎ (e ≡ Fault)) → IsErrOf result NoMemory → ⊥
takes_no_memory (Ok value) only told = ok≢err value NoMemory told
takes_no_memory {T} (Err refusal) only told = full_or_fault refusal only (ap (refusal_or {T = T} NoMemory) told)

pub or_memory : {T : Type 0} (result : Result T Refusal) → IfErr result (λ e. (e ≡ JournalFull) ⊎ (e ≡ Fault)) → IfErr result (λ e. (e ≡ JournalFull) ⊎ ((e ≡ NoMemory) ⊎ (e ≡ Fault)))
or_memory (Ok value) only = tt
or_memory (Err refusal) (inl full) = inl full
or_memory (Err refusal) (inr fault) = inr (inr fault)
