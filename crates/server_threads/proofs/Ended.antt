-- How serving ends.
use Rattle.std.proofs.Common.{◌≡◌, ◌⊎◌, ◌↔◌, inl, inr, ℕ, true, false, List, [], ◌∷◌, refl, sym, ◌∙◌, ap, subst, arith, Ok}
use Rattle.std.specs.Prelude.{Bool, Option, Result, set, length, Err, OnOk, OnErr, IfErr, IsErrOf, is_ok}
use Rattle.std.specs.Io.KnownBytes.{IsAtEnd}
use Rattle.disk.specs.declared.device.Disk.{Ghosts}
use Rattle.refusal.specs.declared.Refusal.{Refusal}
use Rattle.refusal.specs.declared.Refusal.TheVariants.{NoMemory, Fault}
use Rattle.revision.specs.State.{State}
use Rattle.recovery.specs.declared.store.Store.{Store}
use Rattle.session.specs.Session.{Session}
use Rattle.serving.specs.declared.failure.ServingError.{ServingError}
use Rattle.serving.specs.declared.failure.ServingError.TheVariants.{Stream, Refused}
use Rattle.serving.specs.Serving.{Serves, StopsServing, beginning}
use Rattle.world.specs.Progress.{Progress}
use Rattle.world.specs.World.{Entry}
use Rattle.hub.specs.Runs.{IsCountedBy, Writer}
use Rattle.flusher.specs.declared.flusher.Flusher.{Flusher}
use Rattle.flusher.specs.Holding.{told_of}
use Rattle.revision.specs.Command.{Taken}
use Rattle.recovery.specs.Found.{commands_of}
use Rattle.turns.specs.Counting.{IsAllPublished}
use Rattle.turns.specs.Writing.{told_count}
use Rattle.hub_desk.specs.AtHub.{Desk, PassesAtHub}
use Rattle.server_threads.specs.Answers.{first_desk}
use Rattle.server_threads.specs.Streams.{ByOne, EndsAtHub, first_of}
use Rattle.server_threads.specs.Served.{WasServed}
use Rattle.server_threads.proofs.Answered.{answered_whole, stops_there}
use Rattle.server_threads.proofs.Served.{one_unserved}

-- a session that was served from its beginning on, at a desk at its own
pub ends_at_hub : (start : State) (old new : Session) (desk desk' : Desk) (input input' output output' : Option (List ℕ)) (in_failed out_failed : Bool) (result : Result (Unit {0}) ServingError)
    → old ≡ beginning → desk ≡ first_desk → OnOk result (Serves (PassesAtHub start) old new desk desk' input input' output output') → OnOk result (IsAtEnd input')
    → OnErr result (StopsServing (PassesAtHub start) old desk desk' input input' output output')
    → OnErr result ((out_failed ≡ true) ⊎ ((in_failed ≡ true) × Serves (PassesAtHub start) old new desk desk' input input' output output'))
    → OnOk result (in_failed ≡ false) → OnOk result (out_failed ≡ false) → IfErr result (λ e. e ≡ Stream)
    → EndsAtHub result start input input' output output' in_failed out_failed desk'
ends_at_hub start old new desk desk' input input' output output' in_failed out_failed (Ok answer) same first serves end stops cause read sent only =
    (answered_whole start old new desk desk' input input' output output' (Ok answer) same first serves end, read, sent)
ends_at_hub start old new desk desk' input input' output output' in_failed out_failed (Err failure) same first serves end stops cause read sent only =
    subst (λ (f : ServingError). EndsAtHub (Err f) start input input' output output' in_failed out_failed desk') (sym only)
    (stops_there start old new desk desk' input input' output output' in_failed out_failed (Err failure) same first stops cause)

-- the store may have failed besides
pub ends_with : (start : State) (input input' output output' : Option (List ℕ)) (in_failed out_failed : Bool) (answer : Result (Unit {0}) ServingError) (written : Result (Unit {0}) Refusal) (last : Desk)
    → EndsAtHub answer start input input' output output' in_failed out_failed last
    → EndsAtHub (first_of answer written) start input input' output output' in_failed out_failed last
ends_with start input input' output output' in_failed out_failed (Ok answer) (Ok written) last ends = ends
ends_with start input input' output output' in_failed out_failed (Ok answer) (Err refusal) last ends = inl (refl, ends.0, ends.1, ends.2)
ends_with start input input' output output' in_failed out_failed (Err failure) written last ends = ends

pub well_with : (answer : Result (Unit {0}) ServingError) (written : Result (Unit {0}) Refusal) → is_ok (first_of answer written) ≡ true → is_ok written ≡ true
well_with (Ok answer) (Ok written) well = refl
well_with (Ok answer) (Err refusal) well = well
well_with (Err failure) written well = absurd (cc well)

-- it never ends out of memory then
pub with_memory : (answer : Result (Unit {0}) ServingError) (written : Result (Unit {0}) Refusal) → IfErr answer (λ failure. failure ≡ Stream)
    → first_of answer written ≡ Err (Refused NoMemory) → ⊥
with_memory (Ok answer) (Ok written) only is = cc is
with_memory (Ok answer) (Err refusal) only is = cc is
with_memory (Err failure) written only is = cc (only, is)

-- what is said of a one desk is said of it in other words
pub by_one : (P Q : Desk → Type 0) → ((desk : Desk) → P desk → Q desk) → (desks : List Desk) → ByOne P desks → ByOne Q desks
by_one P Q more desks one = record { last = one.last; one = one.one; session = more one.last one.session }

module _ {D : Type 0} {disk : Ghosts D} where
  -- nothing was asked, out of memory
  pub none_asked : (start : State) (input output : Option (List ℕ)) (in_failed out_failed : Bool) (store : Store D disk)
      → WasServed (ByOne (EndsAtHub (Err (Refused NoMemory)) start input input output output in_failed out_failed)) false store store
  none_asked start input output in_failed out_failed store =
      one_unserved (ByOne (EndsAtHub (Err (Refused NoMemory)) start input input output output in_failed out_failed)) store
      (record { last = first_desk; one = refl; session = inr (refl, refl) })

-- a store that worked works where serving ended well
works_ended : (old new : Bool) (written : Unit {0}) → (old ≡ false → (new ≡ true ↔ IsErrOf {T = Unit {0}} (Ok written) Fault)) → old ≡ false → new ≡ false
works_ended old true written fails works = absurd (let is = (fails works).0 refl in cc is)
works_ended old false written fails works = refl

pub works_with : (answer : Result (Unit {0}) ServingError) (written : Result (Unit {0}) Refusal) (old new : Bool) → (old ≡ false → (new ≡ true ↔ IsErrOf written Fault))
    → OnOk (first_of answer written) (old ≡ false → new ≡ false)
works_with (Ok answer) (Ok written) old new fails = works_ended old new written fails
works_with (Ok answer) (Err refusal) old new fails = tt
works_with (Err failure) written old new fails = tt

-- one desk in place of the one that there was
pub set_one : {A : Type 0} (all : List A) (one : A) → length all ≡ 1 → set all 0 one ≡ one ∷ []
set_one [] one long = absurd (cc long)
set_one (first ∷ []) one long = refl
set_one {A} (first ∷ second ∷ others) one long = absurd (omega (arith, long, ap (λ (l : List A). length l) (refl {A = List A} {a = first ∷ second ∷ others})))

module _ {D L : Type 0} {disk : Ghosts D} where
  -- all of a board's order is published where the writing ended well
  pub all_ordered : (writer : Writer) (flusher : Flusher D L disk) (board : Progress Entry) (written : Result (Unit {0}) Refusal) → OnOk written (IsAllPublished writer flusher)
      → IsCountedBy writer board → OnOk written (length board.order ≡ told_count flusher)
  all_ordered writer flusher board (Ok answer) all left = sym (left.all all.0) ∙ all.1
  all_ordered writer flusher board (Err refusal) all left = tt

  -- what is published stays
  pub still_published : (writer : Writer) (old new : Flusher D L disk) (written : Result (Unit {0}) Refusal) → told_of new ≡ told_of old → OnOk written (IsAllPublished writer old)
      → OnOk written (IsAllPublished writer new)
  still_published writer old new (Ok answer) told all = (all.0, all.1 ∙ sym (ap (λ (t : List (List Taken)). length (commands_of t)) told))
  still_published writer old new (Err refusal) told all = tt
