-- What becomes of the device of a file, from the opening of the file to its closing, and of those who were served by it.
use Rattle.std.specs.Prelude.{◌≡◌, ◌≢◌, ◌↔◌, List, [], ◌∷◌, ℕ, Bool, true, false, Option, Result, is_ok, OnOk, IfErr, IsErrOf, IfSome}
use Rattle.std.specs.Io.KnownBytes.{Appends}
use Rattle.disk.specs.declared.device.Disk.{Ghosts}
use Rattle.disk.specs.Crash.{history_of}
use Rattle.disk.specs.Device.{History, IsSync, IsAtMostOneStep}
use Rattle.refusal.specs.Refusal.{IsOneOf}
use Rattle.refusal.specs.declared.Refusal.{Refusal}
use Rattle.refusal.specs.declared.Refusal.TheVariants.{NoMemory, Fault, JournalFull, StillNeeded}
use Rattle.history.specs.declared.pick.Pick.{Pick}
use Rattle.milestone.specs.declared.format.Format.TheVariants.{One, Two}
use Rattle.recovery.specs.declared.shape.Shape.{Shape}
use Rattle.recovery.specs.declared.store.Store.{Store}
use Rattle.recovery.specs.Formatting.{IsEmptyStore, IsOnlySynced}
use Rattle.recovery.specs.Layout.{IsFormatted}
use Rattle.recovery.specs.Open.{device_of, state_of, has_failed}
use Rattle.recovery.specs.Opened.{IsOpenedStore, IsReadDevice}
use Rattle.migration.specs.Brought.{IsBrought, IsMigratedFrom, IsCopiedFrom}
use Rattle.inspection.specs.declared.checking.Checked.{Checked}
use Rattle.inspection.specs.Checking.{IsFoundSound}
use Rattle.inspection.specs.Filled.{info_of, lines_of}
use Rattle.inspection.specs.Matching.{IsSyncedTwice}
use Rattle.serving.specs.declared.failure.ServingError.{ServingError}
use Rattle.sockets.specs.Attendance.{visits_of, IsAttended}
use Rattle.sockets.specs.Socket.{Event}
use Rattle.sockets.specs.declared.attendance.Attendance.{Attendance}
use Rattle.server_threads.specs.Connections.{EachHasServed}
use Rattle.server_threads.specs.Served.{WasServed}
use Rattle.server_threads.specs.Streams.{ByOne, EndsAtHub}
use Rattle.words.specs.declared.store.ShapeOptions.{ShapeOptions}
use Rattle.server.specs.Checked.{checked_line}
use Rattle.server.specs.Dump.{dump_of}

-- what stands on the streams of a command, where that is known: what is left of the input, and what the output holds, before the command and after it
pub record Streams : Type 0 where
  pub input : Option (List ℕ)
  pub input_left : Option (List ℕ)
  pub output : Option (List ℕ)
  pub output_left : Option (List ℕ)

abbrev pub between : (input input_left output output_left : Option (List ℕ)) → Streams
between input input_left output output_left = record { input = input; input_left = input_left; output = output; output_left = output_left }

-- numbers of a store are those that the words give
pub record AreGiven (given : ShapeOptions) (shape : Shape) : Type 0 where
  pub slots : IfSome given.slots (λ n. shape.slots ≡ n)
  pub slot : IfSome given.slot (λ n. shape.slot ≡ n)
  pub docs : IfSome given.docs (λ n. shape.docs ≡ n)
  pub cell : IfSome given.cell (λ n. shape.cell ≡ n)
  pub sources : IfSome given.sources (λ n. shape.sources ≡ n)
  pub keep : IfSome given.keep (λ n. shape.keep ≡ n)

module _ {D : Type 0} (disk : Ghosts D) where
  -- ---- a device that was just opened

  -- A device was just opened, this became of it, and it has this history then.
  pub record WasDone (Became : D → D → Type 0) (device : History) : Type 0 where
    pub opened : D
    pub left : D
    pub is_new : disk.past opened ≡ []
    pub became : Became opened left
    pub now : device ≡ history_of disk left

  -- A store was opened by a pick on this device, which was just opened.
  pub record IsOpenedOnFile (pick : Pick) (file : D) (store : Store D disk) : Type 0 where
    pub new : disk.past file ≡ []
    pub opens : IsOpenedStore (disk.seen file) pick store
    pub device : IsReadDevice disk file (device_of store)

  abbrev pub IsOpenedAnew : Pick → Store D disk → Type 0
  IsOpenedAnew pick store = (file : D) × IsOpenedOnFile pick file store

  -- A store was so opened, this became of it, and the device of what is left has this history.
  abbrev pub WasOver : Pick → (Store D disk → Store D disk → Type 0) → History → Type 0
  WasOver pick Became device =
      (opened : Store D disk) × (left : Store D disk) × IsOpenedAnew pick opened × Became opened left × (device ≡ history_of disk (device_of left))

  -- A store was served to those who came by a listener that has noted this, with this answer.
  pub record WasListenedBy (arrivals : List Event) (attendance : Attendance) (served : Result (Unit {0}) Refusal) (old new : Store D disk) : Type 0 where
    pub life : WasServed (EachHasServed (state_of old) (visits_of attendance)) (is_ok served) old new
    pub attended : IsAttended [] arrivals attendance
    pub complete : OnOk served (attendance.is_complete ≡ true)
    pub fails : has_failed old ≡ false → (has_failed new ≡ true ↔ IsErrOf served Fault)
    pub causes : IfErr served (λ e. e ≢ Fault → IsOneOf e (NoMemory ∷ JournalFull ∷ StillNeeded ∷ []))

  abbrev pub WasListenedFor : List Event → Result (Unit {0}) Refusal → Store D disk → Store D disk → Type 0
  WasListenedFor arrivals served old new = (attendance : Attendance) × WasListenedBy arrivals attendance served old new

  -- A store was served to one session over streams, with this answer.
  pub record WasStreamedBy (streams : Streams) (answer : Result (Unit {0}) ServingError) (input_failed output_failed : Bool) (old new : Store D disk) : Type 0 where
    pub life :
        WasServed (ByOne (EndsAtHub answer (state_of old) streams.input streams.input_left streams.output streams.output_left input_failed output_failed))
        (is_ok answer) old new
    pub works : OnOk answer (has_failed old ≡ false → has_failed new ≡ false)

  abbrev pub WasStreamed : Streams → Result (Unit {0}) ServingError → Store D disk → Store D disk → Type 0
  WasStreamed streams answer old new = (input_failed : Bool) × (output_failed : Bool) × WasStreamedBy streams answer input_failed output_failed old new

  -- ---- a store that is told of

  -- A store was opened by a pick on a device, this text of it was printed, and it was closed, which gave this device back.
  pub record IsPrintedOf (pick : Pick) (text : Store D disk → List ℕ) (before after : Option (List ℕ)) (old new : D) : Type 0 where
    pub store : Store D disk
    pub opens : IsOpenedStore (disk.seen old) pick store
    pub device : IsReadDevice disk old (device_of store)
    pub closes : new ≡ device_of store
    pub printed : Appends before after (text store)

  -- the documents of a store, as `dump` prints them
  abbrev pub dump_text : Store D disk → List ℕ
  dump_text store = dump_of (state_of store).documents

  -- its documents, or how full it is, as `info` prints that
  abbrev pub info_text : Bool → Store D disk → List ℕ
  info_text true store = lines_of (state_of store).limits (state_of store).documents
  info_text false store = info_of store

  -- The store on a device was found to be sound, and its numbers were printed. Nothing was written to the device.
  pub record IsCheckedBy (before after : Option (List ℕ)) (old new : D) : Type 0 where
    pub checked : Checked D
    pub sound : IsFoundSound disk checked old
    pub closes : new ≡ checked.disk
    pub unwritten : IsSyncedTwice (history_of disk old) (history_of disk new)
    pub printed : Appends before after (checked_line checked.documents checked.changes)

  -- ---- a store that is made

  -- A store that is on a device which has kept its word is left as it is: a sync at most moves the device on.
  abbrev pub Spares : D → D → Type 0
  Spares old new = disk.honest new → IsFormatted (disk.seen old) → IsOnlySynced (history_of disk old) (history_of disk new)

  -- A device holds a store without documents, with the numbers that the words give, and is synced.
  pub record IsEmptied (given : ShapeOptions) (old new : D) : Type 0 where
    pub shape : Shape
    pub numbers : AreGiven given shape
    pub empty : IsEmptyStore shape (disk.seen new)
    pub synced : disk.unsynced new ≡ []

  -- The store on a device that was opened was brought to another device, after a sync of it at most: by the law of migration, or by that of
  -- copying, with the numbers that the words give.
  pub record IsMigratedTo (opened left : D) (old new : D) : Type 0 where
    pub read : D
    pub first : IsAtMostOneStep IsSync (history_of disk opened) (history_of disk read)
    pub seen : disk.seen read ≡ disk.seen opened
    pub brought : IsBrought disk disk One (IsMigratedFrom disk read left) read left old new

  pub record IsCopiedTo (given : ShapeOptions) (opened left : D) (old new : D) : Type 0 where
    pub read : D
    pub first : IsAtMostOneStep IsSync (history_of disk opened) (history_of disk read)
    pub seen : disk.seen read ≡ disk.seen opened
    pub shape : Shape
    pub numbers : AreGiven given shape
    pub brought : IsBrought disk disk Two (IsCopiedFrom disk shape read left) read left old new
