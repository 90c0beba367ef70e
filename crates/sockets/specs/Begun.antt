-- Work that was given a thread, or got none.
use Rattle.std.specs.Prelude.{◌≡◌, ℕ, List, [], ◌∷◌}
use Rattle.std.specs.declared.thread.Promise as promise
use Rattle.session.specs.Exchange.{Exchange}
use Rattle.sockets.specs.declared.begun.BegunWork.{BegunWork}
use Rattle.sockets.specs.declared.begun.BegunWork.TheVariants.{InThread, WithoutThread}
use Rattle.sockets.specs.declared.threads.Attendant.{Attendant}
use Rattle.sockets.specs.declared.threads.ServedBy.{ServedBy}
use Rattle.sockets.specs.Desks.{ServesVisits}

module _ {T P : Type 0} (g : promise.Ghosts P T) where
  -- what comes of work keeps its thread's promise, or is what came of it without one
  abbrev pub EndsAs : BegunWork T P → T → Type 0
  EndsAs (InThread thread) result = g.kept_by thread.promise result
  EndsAs (WithoutThread came) result = result ≡ came

  -- each, in their order
  abbrev pub EndAs : List (BegunWork T P) → List T → Type 0
  EndAs [] [] = Unit {0}
  EndAs (one ∷ others) (result ∷ results) = EndsAs one result × EndAs others results
  EndAs [] (result ∷ results) = ⊥
  EndAs (one ∷ others) [] = ⊥

module _ {D G : Type 0} (does : D → Exchange → D → Type 0) (hall : ℕ) where
  -- this desk became one that has served its guests
  abbrev pub HasAttended : D → Attendant D G → Type 0
  HasAttended desk attendant = ServesVisits does hall attendant.guests.visits.list desk attendant.desk

  -- each desk did, in their order
  abbrev pub HaveAttended : List D → List (Attendant D G) → Type 0
  HaveAttended [] [] = Unit {0}
  HaveAttended (desk ∷ desks) (one ∷ others) = HasAttended desk one × HaveAttended desks others
  HaveAttended [] (one ∷ others) = ⊥
  HaveAttended (desk ∷ desks) [] = ⊥

  -- this desk was given a thread, which promises what comes of it, or this came of it without one
  abbrev pub IsBegun : D → BegunWork (Attendant D G) (ServedBy D) → Type 0
  IsBegun desk (InThread thread) = (thread.promise.0.value ≡ desk) × (thread.promise.1.value.ended.id ≡ hall)
  IsBegun desk (WithoutThread came) = HasAttended desk came

  -- each desk was, in their order
  abbrev pub AreBegun : List D → List (BegunWork (Attendant D G) (ServedBy D)) → Type 0
  AreBegun [] [] = Unit {0}
  AreBegun (desk ∷ desks) (one ∷ others) = IsBegun desk one × AreBegun desks others
  AreBegun [] (one ∷ others) = ⊥
  AreBegun (desk ∷ desks) [] = ⊥
