-- Desks that were begun, and what comes of them once they have ended.
use Rattle.std.proofs.Common.{◌++◌, ◌≡◌, ℕ, suc, List, [], ◌∷◌, length, refl, ap, subst, sym}
use Rattle.std.specs.Prelude.{map}
use Rattle.std.specs.declared.thread.Promise as promise
use Rattle.session.specs.Exchange.{Exchange}
use Rattle.sockets.specs.declared.begun.BegunWork.{BegunWork}
use Rattle.sockets.specs.declared.begun.BegunWork.TheVariants.{InThread, WithoutThread}
use Rattle.sockets.specs.declared.threads.Attendant.{Attendant}
use Rattle.sockets.specs.declared.threads.ServedBy.{ServedBy}
use Rattle.sockets.specs.Begun.{EndsAs, EndAs, HasAttended, HaveAttended, IsBegun, AreBegun}
use Rattle.sockets.specs.Desks.{HaveServed}

module _ {T P : Type 0} (g : promise.Ghosts P T) where
  -- one more has ended
  pub one_more_ended : (front : List (BegunWork T P)) (results : List T) (one : BegunWork T P) (result : T) → EndAs g front results → EndsAs g one result
      → EndAs g (front ++ one ∷ []) (results ++ result ∷ [])
  one_more_ended [] [] one result ended ends = (ends, tt)
  one_more_ended [] (r ∷ results) one result ended ends = absurd ended
  one_more_ended (o ∷ others) [] one result ended ends = absurd ended
  one_more_ended (o ∷ others) (r ∷ results) one result (first, ended) ends = (first, one_more_ended others results one result ended ends)

module _ {D G : Type 0} (does : D → Exchange → D → Type 0) (hall : ℕ) where
  -- one more was begun
  pub one_more_begun : (front : List D) (begun : List (BegunWork (Attendant D G) (ServedBy D))) (desk : D) (one : BegunWork (Attendant D G) (ServedBy D)) → AreBegun does hall front begun
      → IsBegun does hall desk one → AreBegun does hall (front ++ desk ∷ []) (begun ++ one ∷ [])
  one_more_begun [] [] desk one before is = (is, tt)
  one_more_begun [] (o ∷ others) desk one before is = absurd before
  one_more_begun (d ∷ desks) [] desk one before is = absurd before
  one_more_begun (d ∷ desks) (o ∷ others) desk one (first, before) is = (first, one_more_begun desks others desk one before is)

  -- as many as there are desks
  pub as_many_begun : (desks : List D) (begun : List (BegunWork (Attendant D G) (ServedBy D))) → AreBegun does hall desks begun → length begun ≡ length desks
  as_many_begun [] [] are = refl
  as_many_begun [] (o ∷ others) are = absurd are
  as_many_begun (d ∷ desks) [] are = absurd are
  as_many_begun (d ∷ desks) (o ∷ others) (is, are) = ap suc (as_many_begun desks others are)

  module _ (g : promise.Ghosts (ServedBy D) (Attendant D G))
      (keeps : (by : ServedBy D) (one : Attendant D G) → g.kept_by by one → HasAttended does by.1.value.ended.id by.0.value one) where
    attended : (desk : D) (after : Attendant D G) (one : BegunWork (Attendant D G) (ServedBy D)) → IsBegun does hall desk one → EndsAs g one after → HasAttended does hall desk after
    attended desk after (InThread thread) (is, named) ends =
        subst (λ (d : D). HasAttended does hall d after) is
        (subst (λ (h : ℕ). HasAttended does h thread.promise.0.value after) named (keeps thread.promise after ends))
    attended desk after (WithoutThread came) is ends = subst (λ (one : Attendant D G). HasAttended does hall desk one) (sym ends) is

    -- what was begun has ended, so each desk has served
    pub all_attended : (desks : List D) (begun : List (BegunWork (Attendant D G) (ServedBy D))) (results : List (Attendant D G)) → AreBegun does hall desks begun → EndAs g begun results
        → HaveAttended does hall desks results
    all_attended [] [] [] are ended = tt
    all_attended [] [] (r ∷ results) are ended = absurd ended
    all_attended [] (o ∷ others) results are ended = absurd are
    all_attended (d ∷ desks) [] results are ended = absurd are
    all_attended (d ∷ desks) (o ∷ others) [] are ended = absurd ended
    all_attended (d ∷ desks) (o ∷ others) (r ∷ results) (is, are) (ends, ended) = (attended d r o is ends, all_attended desks others results are ended)

  -- as many have served as there were desks
  pub as_many_attended : (desks : List D) (results : List (Attendant D G)) → HaveAttended does hall desks results → length results ≡ length desks
  as_many_attended [] [] are = refl
  as_many_attended [] (r ∷ results) are = absurd are
  as_many_attended (d ∷ desks) [] are = absurd are
  as_many_attended (d ∷ desks) (r ∷ results) (is, are) = ap suc (as_many_attended desks results are)

  -- the desks apart from their visits
  pub served_apart : (desks : List D) (results : List (Attendant D G)) → HaveAttended does hall desks results
      → HaveServed does hall desks (map (λ (one : Attendant D G). one.guests.visits.list) results) (map (λ (one : Attendant D G). one.desk) results)
  served_apart [] [] are = tt
  served_apart [] (r ∷ results) are = absurd are
  served_apart (d ∷ desks) [] are = absurd are
  served_apart (d ∷ desks) (r ∷ results) (is, are) = (is, served_apart desks results are)
