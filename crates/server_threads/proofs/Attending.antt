-- Desks that came back from those who connected.
use Rattle.std.proofs.Common.{◌≡◌, ◌⊎◌, ◌∙◌, ◌+◌, inl, inr, ℕ, true, false, List, [], ◌∷◌, length, refl, sym, ap, subst, arith, Ok, true≢false}
use Rattle.std.specs.Prelude.{◌↔◌, ◌≢◌, All, Result, Err, OnOk, IfErr, IsErrOf, is_ok}
use Rattle.std.proofs.lemmas.Bool.{false≢true}
use Rattle.std.proofs.lemmas.List.Elements.{All-head, All-tail}
use Rattle.disk.specs.declared.device.Disk.{Ghosts}
use Rattle.refusal.specs.declared.Refusal.{Refusal}
use Rattle.refusal.specs.declared.Refusal.TheVariants.{JournalFull, StillNeeded, NoMemory, Fault}
use Rattle.refusal.specs.Refusal.{IsOneOf}
use Rattle.flusher.proofs.CallerLemmas.{no_error}
use Rattle.revision.specs.State.{State}
use Rattle.recovery.specs.declared.store.Store.{Store}
use Rattle.recovery.specs.Open.{has_failed}
use Rattle.hub_desk.specs.AtHub.{Desk, PassesAtHub}
use Rattle.sockets.specs.declared.attendance.Attendance.{Attendance}
use Rattle.sockets.specs.declared.raw.Visit.{Visit}
use Rattle.sockets.specs.Attendance.{visits_of, turned_away_of, IsAttended, IsOfNobody}
use Rattle.sockets.specs.Desks.{ServesVisits, HaveServed, in_none}
use Rattle.sockets.specs.Host.{are_unasked}
use Rattle.sockets.specs.Socket.{Event}
use Rattle.server_threads.specs.Answers.{first_desk}
use Rattle.server_threads.specs.Connections.{EachServes, EachHasServed}
use Rattle.server_threads.specs.Served.{WasServed}
use Rattle.server_threads.proofs.Served.{none_served}

-- desks that were asked for nothing before have served from their beginning on
pub each_served : (start : State) (hall : ℕ) (desks : List Desk) (visits : List (List Visit)) (after : List Desk)
    → HaveServed (PassesAtHub start) hall desks visits after → All (λ (desk : Desk). desk ≡ first_desk) desks → EachServes start hall visits after
each_served start hall [] [] [] served first = tt
each_served start hall [] [] (desk' ∷ after) served first = absurd served
each_served start hall [] (v ∷ visits) after served first = absurd served
each_served start hall (desk ∷ desks) [] after served first = absurd served
each_served start hall (desk ∷ desks) (v ∷ visits) [] served first = absurd served
each_served start hall (desk ∷ desks) (v ∷ visits) (desk' ∷ after) served first = (
  subst (λ (d : Desk). ServesVisits (PassesAtHub start) hall v d desk') (All-head (λ (d : Desk). d ≡ first_desk) desk desks first) served.0,
  each_served start hall desks visits after served.1 (All-tail (λ (d : Desk). d ≡ first_desk) desk desks first),
)

-- they are as many as before
pub as_many : (start : State) (hall : ℕ) (desks : List Desk) (visits : List (List Visit)) (after : List Desk)
    → HaveServed (PassesAtHub start) hall desks visits after → length after ≡ length desks
as_many start hall [] [] [] served = refl
as_many start hall [] [] (desk' ∷ after) served = absurd served
as_many start hall [] (v ∷ visits) after served = absurd served
as_many start hall (desk ∷ desks) [] after served = absurd served
as_many start hall (desk ∷ desks) (v ∷ visits) [] served = absurd served
as_many start hall (desk ∷ desks) (v ∷ visits) (desk' ∷ after) served = let others = as_many start hall desks visits after served.1 in omega (arith, others)

-- desks that nobody asked
unasked : (start : State) (desks : List Desk) → All (λ (desk : Desk). desk ≡ first_desk) desks → EachServes start 0 [] desks
unasked start [] first = tt
unasked start (desk ∷ desks) first = (
  record { asked = []; asks = All-head (λ (d : Desk). d ≡ first_desk) desk desks first; conversations = in_none },
  unasked start desks (All-tail (λ (d : Desk). d ≡ first_desk) desk desks first),
)

pub unserved : (start : State) (visits : List (List Visit)) (desks : List Desk) → visits ≡ [] → All (λ (desk : Desk). desk ≡ first_desk) desks
    → EachHasServed start visits desks
unserved start visits desks none first = subst (λ l. EachHasServed start l desks) (sym none) (0, unasked start desks first)

-- where nobody came, all of them are there
pub none_came : (old new : List Event) (attendance : Attendance) → IsOfNobody attendance → IsAttended old new attendance
none_came old new attendance (visits, away, incomplete) = record {
  unasked = ap are_unasked away;
  all = λ is. absurd (true≢false (sym is ∙ incomplete));
  failed = λ is. absurd (true≢false (sym is ∙ incomplete));
}

-- a life ends well only where its writing did
pub well_by : (A : Type 0) (answer written : Result (Unit {0}) Refusal) → OnOk answer ((written ≡ Ok tt) × A) → is_ok answer ≡ true → is_ok written ≡ true
well_by A (Ok answer) written is well = ap is_ok is.0
well_by A (Err refusal) written is well = absurd (cc well)

-- and where its serving did, with what is so then
pub complete_by : {E : Type 0} (A B : Type 0) (answer : Result (Unit {0}) Refusal) (served : Result (Unit {0}) E) → OnOk answer (A × (served ≡ Ok tt)) → OnOk served B
    → OnOk answer B
complete_by A B (Ok answer) served is complete = subst (λ r. OnOk r B) is.1 complete
complete_by A B (Err refusal) served is complete = tt

module _ {D : Type 0} {disk : Ghosts D} where
  -- nobody was served, out of memory
  pub nobody_served : (start : State) (visits : List (List Visit)) (served : Result (Unit {0}) Refusal) (old new : Store D disk) → new ≡ old → visits ≡ []
      → served ≡ Err NoMemory → WasServed (EachHasServed start visits) (is_ok served) old new
  nobody_served start visits served old new same none ill =
      let each : List Desk → Type 0 = EachHasServed start visits in
      subst (λ (r : Result (Unit {0}) Refusal). WasServed each (is_ok r) old new) (sym ill)
      (subst (λ (s : Store D disk). WasServed each false old s) (sym same)
      (none_served each old (subst (λ (l : List (List Visit)). EachHasServed start l []) (sym none) (0, tt))))

  -- and the store works as before
  pub fails_not : (served : Result (Unit {0}) Refusal) (old new : Store D disk) → new ≡ old → served ≡ Err NoMemory
      → has_failed old ≡ false → (has_failed new ≡ true ↔ IsErrOf served Fault)
  fails_not served old new same ill works = (
    λ failed. absurd (false≢true (sym works ∙ (ap has_failed (sym same) ∙ failed))),
    λ is. absurd (let no = sym ill ∙ is in cc no),
  )

-- why serving was refused
pub caused : (result written : Result (Unit {0}) Refusal) → IfErr result (λ e. (e ≡ NoMemory) ⊎ IsErrOf written e)
    → IfErr written (λ e. e ≢ Fault → IsOneOf e (JournalFull ∷ StillNeeded ∷ []))
    → IfErr result (λ e. e ≢ Fault → IsOneOf e (NoMemory ∷ JournalFull ∷ StillNeeded ∷ []))
caused (Ok answer) written which causes = tt
caused (Err e) (Ok answer) which causes = λ no_fault. by_memory e answer which
  where
    by_memory : (e : Refusal) (answer : Unit {0}) → (e ≡ NoMemory) ⊎ IsErrOf {T = Unit {0}} (Ok answer) e → IsOneOf e (NoMemory ∷ JournalFull ∷ StillNeeded ∷ [])
    by_memory e answer (inl memory) = inl memory
    by_memory e answer (inr is) = absurd (no_error answer e is)
caused (Err e) (Err other) which causes = λ no_fault. by_either e other which causes no_fault
  where
    by_either : (e other : Refusal) → (e ≡ NoMemory) ⊎ IsErrOf {T = Unit {0}} (Err other) e → (other ≢ Fault → IsOneOf other (JournalFull ∷ StillNeeded ∷ []))
        → e ≢ Fault → IsOneOf e (NoMemory ∷ JournalFull ∷ StillNeeded ∷ [])
    by_either e other (inl memory) causes no_fault = inl memory
    by_either e other (inr is) causes no_fault =
        let same : other ≡ e = cc is in
        inr (subst (λ (r : Refusal). IsOneOf r (JournalFull ∷ StillNeeded ∷ [])) same (causes (λ fault. no_fault (sym same ∙ fault))))

pub caused_by_memory : (result : Result (Unit {0}) Refusal) → result ≡ Err NoMemory → IfErr result (λ e. e ≢ Fault → IsOneOf e (NoMemory ∷ JournalFull ∷ StillNeeded ∷ []))
caused_by_memory result is = subst (λ (r : Result (Unit {0}) Refusal). IfErr r (λ e. e ≢ Fault → IsOneOf e (NoMemory ∷ JournalFull ∷ StillNeeded ∷ []))) (sym is) (λ no_fault. inl refl)
