-- What serving one session over a pair of streams leaves of the streams.
use Rattle.std.specs.Prelude.{◌≡◌, ◌⊎◌, ℕ, Bool, true, false, List, [], ◌∷◌, Option, Result, Ok, Err}
use Rattle.refusal.specs.declared.Refusal.{Refusal}
use Rattle.refusal.specs.declared.Refusal.TheVariants.{NoMemory, StoreFailed}
use Rattle.revision.specs.State.{State}
use Rattle.hub_desk.specs.AtHub.{Desk, PassesAtHub}
use Rattle.serving.specs.declared.failure.ServingError.{ServingError}
use Rattle.serving.specs.declared.failure.ServingError.TheVariants.{Stream, Refused}
use Rattle.serving.specs.Serving.{IsServed as IsAnswered, IsServedSoFar, StopsServing, beginning}
use Rattle.server_threads.specs.Answers.{first_desk}

-- All of the input was taken, and the output is the replies to it, made with the answers of such a desk, which is this one then.
pub record IsAnsweredAtHub (start : State) (input input' output output' : Option (List ℕ)) (last : Desk) : Type 0 where
  pub served : IsAnswered (PassesAtHub start) first_desk last input input' output output'

-- `Stream` was answered: a stream has failed. The output is the replies to a prefix of the input that was taken, and a prefix of the replies
-- to the text of a line behind it, or to a line end. Where the output hasn't failed, the input has, and all replies to what was taken are written.
pub record StopsAtHub (start : State) (input input' output output' : Option (List ℕ)) (in_failed out_failed : Bool) (last : Desk) : Type 0 where
  pub stops : StopsServing (PassesAtHub start) beginning first_desk last input input' output output'
  pub cause : (out_failed ≡ true) ⊎ ((in_failed ≡ true) × IsServedSoFar (PassesAtHub start) first_desk last input input' output output')

-- What the session's desk is by how serving ended. All of the input is answered, and both streams work, after an Ok and where only the store
-- failed; or `Stream` was answered; or, out of memory, nothing was asked.
abbrev pub EndsAtHub : Result (Unit {0}) ServingError → State → (input input' output output' : Option (List ℕ)) → (in_failed out_failed : Bool) → Desk → Type 0
EndsAtHub (Ok answer) start input input' output output' in_failed out_failed last =
    IsAnsweredAtHub start input input' output output' last × (in_failed ≡ false) × (out_failed ≡ false)
EndsAtHub (Err Stream) start input input' output output' in_failed out_failed last = StopsAtHub start input input' output output' in_failed out_failed last
EndsAtHub (Err (Refused refusal)) start input input' output output' in_failed out_failed last =
    ((refusal ≡ StoreFailed) × IsAnsweredAtHub start input input' output output' last × (in_failed ≡ false) × (out_failed ≡ false))
    ⊎ ((refusal ≡ NoMemory) × (last ≡ first_desk))

-- there was one desk, and this holds of it
pub record ByOne (P : Desk → Type 0) (desks : List Desk) : Type 0 where
  pub last : Desk
  pub one : desks ≡ last ∷ []
  pub session : P last

-- how serving over streams ends: as the session did, and where that ended well, well where the writing did
abbrev pub first_of : Result (Unit {0}) ServingError → Result (Unit {0}) Refusal → Result (Unit {0}) ServingError
first_of (Ok answer) (Ok written) = Ok tt
first_of (Ok answer) (Err refusal) = Err (Refused StoreFailed)
first_of (Err failure) written = Err failure
