-- What the system is asked for files and addresses, and what it is asked by a command.
use Rattle.std.specs.Prelude.{◌≡◌, ◌⊎◌, ℕ, List, [], ◌∷◌, Option, Some, None, slice_index, ◌==◌, if◌then◌else◌, Bool, Result, Ok}
use Rattle.disk.specs.Device.{History, IsSync, IsAtMostOneStep}
use Rattle.disk.specs.Crash.{history_of}
use Rattle.disk.specs.declared.device.Disk.{Ghosts}
use Rattle.history.specs.declared.pick.Pick.{Pick}
use Rattle.history.specs.declared.pick.Pick.TheVariants.{Newer, Older}
use Rattle.inspection.specs.Matching.{IsSyncedTwice}
use Rattle.refusal.specs.declared.Refusal.{Refusal}
use Rattle.serving.specs.declared.failure.ServingError.{ServingError}
use Rattle.sockets.specs.Socket.{Event}
use Rattle.server.specs.Devices.{Streams, WasDone, WasOver, WasListenedFor, WasStreamed, IsPrintedOf, dump_text, info_text, IsCheckedBy, Spares, IsEmptied, IsMigratedTo, IsCopiedTo}
use Rattle.words.specs.declared.invocation.Invocation.{Invocation}
use Rattle.words.specs.declared.invocation.Invocation.TheVariants.{Format, Serve, Dump, Info, Check, Migrate, Copy, Delta}
use Rattle.words.specs.declared.store.Listening.{Listening}

-- a call of the system with its answer; a file and an address are named by their bytes
pub data Call : Type 0 where
  -- a file was there, wasn't, or the system couldn't tell
  Found : (path : List ℕ) → Call
  Missed : (path : List ℕ) → Call
  Unseen : (path : List ℕ) → Call
  -- a file that is there was opened and locked, or that failed
  Opened : (path : List ℕ) → Call
  FailedOpening : (path : List ℕ) → Call
  -- a file that wasn't there was made, opened and locked, or that failed
  Made : (path : List ℕ) → Call
  FailedMaking : (path : List ℕ) → Call
  -- a file was closed, and its device told this: what it held then, and each state since it was opened or made
  Closed : (path : List ℕ) → (device : History) → Call
  -- a file was removed, or that failed
  Removed : (path : List ℕ) → Call
  -- an address was taken to listen on, or that failed
  Listened : (address : List ℕ) → Call
  FailedListening : (address : List ℕ) → Call
  -- the listener on an address was closed, and had noted these calls since it was bound
  Left : (address : List ℕ) → (arrivals : List Event) → Call

-- the call that a kind and a name mean
abbrev pub call_of : List ℕ → List ℕ → Call
call_of numbers name =
    let kind = slice_index numbers 0 in
    if kind == 0 then Found name
    else if kind == 1 then Missed name
    else if kind == 2 then Unseen name
    else if kind == 3 then Opened name
    else if kind == 4 then FailedOpening name
    else if kind == 5 then Made name
    else if kind == 6 then FailedMaking name
    else if kind == 7 then Removed name
    else if kind == 8 then Listened name
    else FailedListening name

-- Nothing was written to a device since it was opened: one sync at most moved it on.
abbrev pub IsUnwritten : History → Type 0
IsUnwritten device = (opened : History) × (opened.past ≡ []) × IsAtMostOneStep IsSync opened device

-- The same, with two syncs at most: it was read in two ways.
abbrev pub IsUnwrittenTwice : History → Type 0
IsUnwrittenTwice device = (opened : History) × (opened.past ≡ []) × IsSyncedTwice opened device

-- A file is closed as the last call, and this holds of its device then.
abbrev pub IsClosed : (History → Type 0) → List ℕ → List Call → List Call → Type 0
IsClosed Device path old new = (device : History) × Device device × (new ≡ Closed path device ∷ old)

-- A file that is there is opened once, and closed again with a device where this holds. No other call is made.
abbrev pub WasRead : (History → Type 0) → List ℕ → List Call → List Call → Type 0
WasRead Device path old new = IsClosed Device path (Opened path ∷ old) new

-- The same, or it can't be opened.
abbrev pub IsRead : (History → Type 0) → List ℕ → List Call → List Call → Type 0
IsRead Device path old new = (new ≡ FailedOpening path ∷ old) ⊎ WasRead Device path old new

-- A file that isn't there isn't made either, or is removed again.
abbrev pub IsUnmade : List ℕ → List Call → List Call → Type 0
IsUnmade path old new = (new ≡ old) ⊎ ((new ≡ FailedMaking path ∷ old) ⊎ (new ≡ Removed path ∷ Made path ∷ old))

-- A file is looked for, and can't be had: one that is there can't be opened, one that isn't can't be made.
abbrev pub IsMissed : List ℕ → List Call → List Call → Type 0
IsMissed path old new =
    (new ≡ Unseen path ∷ old) ⊎ ((new ≡ FailedOpening path ∷ Found path ∷ old) ⊎ IsUnmade path (Missed path ∷ old) new)

-- A file that was there was opened, or one that wasn't was made, and is there still.
abbrev pub IsKept : List ℕ → List Call → List Call → Type 0
IsKept path old new = (new ≡ Opened path ∷ Found path ∷ old) ⊎ (new ≡ Made path ∷ Missed path ∷ old)

-- which milestone of a document its reading begins with
abbrev pub pick_of : Bool → Pick
pick_of older = if older then Older else Newer

module _ {D : Type 0} (disk : Ghosts D) where
  -- This became of a device, and it was closed as the last call.
  abbrev pub ClosesAs : (D → Type 0) → List ℕ → List Call → List Call → Type 0
  ClosesAs Became path old new = (left : D) × Became left × (new ≡ Closed path (history_of disk left) ∷ old)

  -- A file was opened, or one that wasn't there was made, this became of its device from then on, and at last it was closed. The device of one
  -- that was opened was just opened.
  pub record IsFilled (Became : D → D → Type 0) (path : List ℕ) (old new : List Call) : Type 0 where
    pub between : List Call
    pub had : D
    pub left : D
    pub is_kept : IsKept path old between
    pub is_new : between ≡ Opened path ∷ Found path ∷ old → disk.past had ≡ []
    pub became : Became had left
    pub closed : new ≡ Closed path (history_of disk left) ∷ between

  -- The same, or the file can't be had.
  abbrev pub IsFilledOrMissed : (D → D → Type 0) → List ℕ → List Call → List Call → Type 0
  IsFilledOrMissed Became path old new = IsMissed path old new ⊎ IsFilled Became path old new

  -- A file is opened, a second one is had once that could be done, a store that stands there is spared, and at last the first one is closed, with
  -- nothing written to it.
  abbrev pub AreHad : List ℕ → List ℕ → List Call → List Call → Type 0
  AreHad first second old new = (new ≡ FailedOpening first ∷ old)
      ⊎ ((between : List Call) × IsFilledOrMissed (Spares disk) second (Opened first ∷ old) between × IsClosed IsUnwrittenTwice first between new)

  -- A file was opened, a second one was, or was made, this became of the two devices, and both were closed.
  pub record AreFilled (Became : D → D → D → D → Type 0) (first second : List ℕ) (old new : List Call) : Type 0 where
    pub between : List Call
    pub opened : D
    pub left : D
    pub is_new : disk.past opened ≡ []
    pub filled : IsFilled (Became opened left) second (Opened first ∷ old) between
    pub closed : new ≡ Closed first (history_of disk left) ∷ between

  -- No store is served: the file can't be opened, or no store on it. Nothing is written to the file.
  abbrev pub IsUnserved : List ℕ → List Call → List Call → Type 0
  IsUnserved path old new = IsRead IsUnwritten path old new

  -- A store that was opened is served to all who come by a listener, with this answer, and then the listener and the file are closed.
  abbrev pub IsServedAt : Pick → List ℕ → List ℕ → Result (Unit {0}) Refusal → List Call → List Call → Type 0
  IsServedAt pick path address served old new =
      (arrivals : List Event) × IsClosed (WasOver disk pick (WasListenedFor disk arrivals served)) path (Left address arrivals ∷ old) new

  -- A file is opened, an address is taken, and the store in the file is served to all who come there, and ends well: each of them is accounted
  -- for, and the file holds all that was ordered.
  abbrev pub IsServedWell : Pick → List ℕ → List ℕ → List Call → List Call → Type 0
  IsServedWell pick path address old new = IsServedAt pick path address (Ok tt) (Listened address ∷ Opened path ∷ old) new

  -- A file is opened, an address is taken only once a store was found in it, and that store is served.
  abbrev pub IsListenedFor : Pick → List ℕ → List ℕ → List Call → List Call → Type 0
  IsListenedFor pick path address old new =
      IsUnserved path old new
      ⊎ (IsClosed IsUnwritten path (FailedListening address ∷ Opened path ∷ old) new
      ⊎ ((served : Result (Unit {0}) Refusal) × IsServedAt pick path address served (Listened address ∷ Opened path ∷ old) new))

  -- A file is opened, the store in it is served to one session over the streams, and the file is closed.
  abbrev pub IsStreamed : Pick → Streams → Result (Unit {0}) ServingError → List ℕ → List Call → List Call → Type 0
  IsStreamed pick streams answer path old new = WasRead (WasOver disk pick (WasStreamed disk streams answer)) path old new

  abbrev pub ServesBy : Pick → Streams → List ℕ → Option Listening → List Call → List Call → Type 0
  ServesBy pick streams path None old new =
      IsUnserved path old new ⊎ ((answer : Result (Unit {0}) ServingError) × IsStreamed pick streams answer path old new)
  ServesBy pick streams path (Some how) old new = IsListenedFor pick path how.address.now old new

  -- What serving leaves that could be done: over the streams all of the input was answered, and at an address all who came were served.
  abbrev pub ServedBy : Pick → Streams → List ℕ → Option Listening → List Call → List Call → Type 0
  ServedBy pick streams path None old new = IsStreamed pick streams (Ok tt) path old new
  ServedBy pick streams path (Some how) old new = IsServedWell pick path how.address.now old new

  -- The calls that a command makes, before and after it, newest first, and what becomes of the devices of its files.
  abbrev pub Asks : Invocation → Streams → List Call → List Call → Type 0
  Asks (Format path shape reserve) streams old new = IsFilledOrMissed (Spares disk) path.now old new
  Asks (Serve path listening every older) streams old new = ServesBy (pick_of older) streams path.now listening old new
  Asks (Dump path older) streams old new = IsRead IsUnwritten path.now old new
  Asks (Info path documents) streams old new = IsRead IsUnwritten path.now old new
  Asks (Check path) streams old new = IsRead IsUnwrittenTwice path.now old new
  Asks (Migrate from to) streams old new = AreHad from.now to.now old new
  Asks (Copy from to shape) streams old new = AreHad from.now to.now old new
  Asks (Delta command) streams old new = new ≡ old

  -- What status 0 tells: what the words ask for was done on the devices of the files that they name.
  abbrev pub Keeps : Invocation → Streams → List Call → List Call → Type 0
  Keeps (Format path shape reserve) streams old new = IsFilled (IsEmptied disk shape) path.now old new
  Keeps (Serve path listening every older) streams old new = ServedBy (pick_of older) streams path.now listening old new
  Keeps (Dump path older) streams old new =
      WasRead (WasDone disk (IsPrintedOf disk (pick_of older) (dump_text disk) streams.output streams.output_left)) path.now old new
  Keeps (Info path documents) streams old new =
      WasRead (WasDone disk (IsPrintedOf disk Newer (info_text disk documents) streams.output streams.output_left)) path.now old new
  Keeps (Check path) streams old new = WasRead (WasDone disk (IsCheckedBy disk streams.output streams.output_left)) path.now old new
  Keeps (Migrate from to) streams old new = AreFilled (IsMigratedTo disk) from.now to.now old new
  Keeps (Copy from to shape) streams old new = AreFilled (IsCopiedTo disk shape) from.now to.now old new
  Keeps (Delta command) streams old new = Unit {0}
