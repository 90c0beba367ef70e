-- What a store was served for, from the opening of its file to the closing.
use Rattle.std.proofs.Common.{◌≡◌, ◌∙◌, ap, sym, subst, inl, inr, ℕ, List, ◌∷◌}
use Rattle.std.specs.Prelude.{Option, Some, None, Result, Ok, Err}
use Rattle.disk.specs.declared.device.Disk.{Ghosts}
use Rattle.disk.specs.Crash.{history_of}
use Rattle.history.specs.declared.pick.Pick.{Pick}
use Rattle.refusal.specs.declared.Refusal.{Refusal}
use Rattle.recovery.specs.declared.store.Store.{Store}
use Rattle.recovery.specs.Open.{device_of}
use Rattle.serving.specs.declared.failure.ServingError.{ServingError}
use Rattle.sockets.specs.Socket.{Event}
use Rattle.words.specs.declared.store.Listening.{Listening}
use Rattle.server.specs.Calls.{Call, Opened, Closed, Listened, Left, IsServedAt, IsServedWell, IsListenedFor, IsStreamed, ServesBy, ServedBy}
use Rattle.server.specs.Devices.{Streams, IsOpenedAnew, WasListenedFor, WasStreamed}

module _ {D : Type 0} {disk : Ghosts D} {pick : Pick} {path : List ℕ} {old : List Call} where
  -- the listener is closed, and then the file
  pub served-at : {address : List ℕ} {arrivals : List Event} {served : Result (Unit {0}) Refusal} {opened left : Store D disk} {closed : D} {mid new : List Call}
      → IsOpenedAnew disk pick opened → WasListenedFor disk arrivals served opened left → closed ≡ device_of left
      → mid ≡ Left address arrivals ∷ old → new ≡ Closed path (history_of disk closed) ∷ mid → IsServedAt disk pick path address served old new
  served-at {arrivals = arrivals} {opened = opened} {left = left} {closed = closed} from was is shut end = (
    arrivals,
    (
      history_of disk closed,
      (opened, left, from, was, ap (history_of disk) is),
      end ∙ ap (λ (calls : List Call). Closed path (history_of disk closed) ∷ calls) shut,
    ),
  )

  -- the file was opened before, and the address taken
  listened : {address : List ℕ} {served : Result (Unit {0}) Refusal} {opened bound new : List Call} → opened ≡ Opened path ∷ old
      → bound ≡ Listened address ∷ opened → IsServedAt disk pick path address served bound new
      → IsServedAt disk pick path address served (Listened address ∷ Opened path ∷ old) new
  listened {address = address} {served = served} {new = new} begin bound is =
      subst (λ (calls : List Call). IsServedAt disk pick path address served calls new)
      (bound ∙ ap (λ (calls : List Call). Listened address ∷ calls) begin) is

  pub listened-for : {address : List ℕ} {served : Result (Unit {0}) Refusal} {opened bound new : List Call} → opened ≡ Opened path ∷ old
      → bound ≡ Listened address ∷ opened → IsServedAt disk pick path address served bound new → IsListenedFor disk pick path address old new
  listened-for {served = served} begin bound is = inr (inr (served, listened begin bound is))

  -- and with a good answer
  pub listened-well : {address : List ℕ} {served : Result (Unit {0}) Refusal} {opened bound new : List Call} → served ≡ Ok tt
      → opened ≡ Opened path ∷ old → bound ≡ Listened address ∷ opened → IsServedAt disk pick path address served bound new
      → IsServedWell disk pick path address old new
  listened-well {address = address} {new = new} well begin bound is =
      subst (λ (a : Result (Unit {0}) Refusal). IsServedAt disk pick path address a (Listened address ∷ Opened path ∷ old) new) well
      (listened begin bound is)

  -- over streams, with this answer
  pub streamed : {streams : Streams} {answer : Result (Unit {0}) ServingError} {opened left : Store D disk} {closed : D} {mid new : List Call}
      → mid ≡ Opened path ∷ old → IsOpenedAnew disk pick opened → WasStreamed disk streams answer opened left
      → closed ≡ device_of left → new ≡ Closed path (history_of disk closed) ∷ mid → IsStreamed disk pick streams answer path old new
  streamed {opened = opened} {left = left} {closed = closed} begin from was is end = (
    history_of disk closed,
    (opened, left, from, was, ap (history_of disk) is),
    end ∙ ap (λ (calls : List Call). Closed path (history_of disk closed) ∷ calls) begin,
  )

  pub serves-alone : {streams : Streams} {listening : Option Listening} {answer : Result (Unit {0}) ServingError} {new : List Call}
      → listening ≡ None → IsStreamed disk pick streams answer path old new → ServesBy disk pick streams path listening old new
  serves-alone {streams = streams} {answer = answer} {new = new} none is =
      subst (λ (l : Option Listening). ServesBy disk pick streams path l old new) (sym none) (inr (answer, is))

  -- and with a good one
  pub served-alone : {streams : Streams} {listening : Option Listening} {answer : Result (Unit {0}) ServingError} {new : List Call}
      → answer ≡ Ok tt → listening ≡ None → IsStreamed disk pick streams answer path old new → ServedBy disk pick streams path listening old new
  served-alone {streams = streams} {new = new} well none is =
      subst (λ (l : Option Listening). ServedBy disk pick streams path l old new) (sym none)
      (subst (λ (a : Result (Unit {0}) ServingError). IsStreamed disk pick streams a path old new) well is)
