-- What holds of every schedule: of each world that any list of events makes of any store.
use Rattle.std.specs.Prelude.{◌≡◌, ◌⊎◌, ℕ, ◌+◌, ◌<◌, ◌≤◌, true, List, ◌++◌, length, take, Option, Some, None, All, Any, AllPairs}
use Rattle.revision.specs.Window.{longest, Window, nothing_taken, revision_in}
use Rattle.revision.specs.Sources.{window_of}
use Rattle.revision.specs.Command.{Command}
use Rattle.revision.specs.State.{DocumentRecord, sources_of, State, find, fold}
use Rattle.revision.specs.Acceptance.{Repeats, Reply, TakenAt, AgainAt, Refused, answer}
use Rattle.revision.specs.Agree.{Agree}
use Rattle.world.specs.Progress.{Ticket}
use Rattle.world.specs.Event.{Event}
use Rattle.world.specs.World.{Entry, takens, World, begun, last_sent}
use Rattle.world.specs.Step.{may_leave, run}
use Rattle.world.specs.Shown.{all_shown}

-- P holds after each list of events, from each state that a store may begin with.
abbrev pub OverAll : (World → Type 0) → Type 0
OverAll P = (start : State) (events : List Event) → P (run (begun start) events)

-- P holds of the world after each list of events and the world after any events more.
abbrev pub OverAllFurther : (World → World → Type 0) → Type 0
OverAllFurther P = (start : State) (events more : List Event) → P (run (begun start) events) (run (begun start) (events ++ more))

-- P holds of each number of commands that a crash or an opening may leave of the order.
abbrev pub HowMuchIsLeft : World → (ℕ → Type 0) → Type 0
HowMuchIsLeft world P = (kept : ℕ) → may_leave world kept ≡ true → P kept

-- the revision that a reply names, 0 where it is a refusal
abbrev pub revision_named : Reply → ℕ
revision_named (TakenAt revision) = revision
revision_named (AgainAt revision) = revision
revision_named (Refused refusal) = 0

-- two commands of one source to one document, with one number: one is the other, sent again
abbrev pub IsSent : Command → Command → Type 0
IsSent a b = (a.name ≡ b.name) × (a.source ≡ b.source) × (a.number ≡ b.number)

-- a source's window in the document of its command, the empty one where there is none
abbrev pub window_found : List ℕ → Option (ℕ × DocumentRecord) → Window
window_found source None = nothing_taken
window_found source (Some found) = window_of source (sources_of found.1)

abbrev pub window_held : State → Command → Window
window_held state command = window_found command.source (find command.name 0 state.documents)

-- an entry of the order is this command, and made this revision
abbrev pub Made : Command → ℕ → Entry → Type 0
Made command revision entry = IsSent command entry.command × (entry.taken.revision ≡ revision)

-- A number made this revision: an entry among these did, or the start had it so.
abbrev pub HasTaken : State → List Entry → Command → ℕ → Type 0
HasTaken start entries command revision =
    Any (Made command revision) entries ⊎ (revision_in command.number (window_held start command) ≡ Some revision)

-- No acknowledged edit is missing: whatever is left of the order has all that an acknowledgement waited for.
abbrev pub AcksStay : World → Type 0
AcksStay world = HowMuchIsLeft world (λ kept. All (λ (ack : Ticket). ack.length ≤ kept) world.acks)

-- No edit is acknowledged that no reader is shown.
abbrev pub AcksAreShown : World → Type 0
AcksAreShown world = All (λ (ack : Ticket). ack.length ≤ length world.published) world.acks

-- None is taken twice: no two places of the order have one number of a source in a document, and none has a number that the start
-- had taken already.
pub record TakenOnce (world : World) : Type 0 where
  pub apart : AllPairs (λ (a b : Entry). IsSent a.command b.command → ⊥) world.board.order
  pub anew : All (λ (e : Entry). (window_held world.board.start e.command).number < e.command.number) world.board.order

-- None changes its revision: all acknowledgements of one number name one revision.
abbrev pub OneRevision : World → Type 0
OneRevision world = AllPairs (λ (a b : Ticket). IsSent a.command b.command → revision_named a.reply ≡ revision_named b.reply) world.acks

-- What an acknowledgement names, of a first sending or a retry, is never taken back: whatever is left of the order has it.
abbrev pub NothingTakenBack : World → Type 0
NothingTakenBack world =
    HowMuchIsLeft world (λ kept. All (λ (ack : Ticket). HasTaken world.board.start (take kept world.board.order) ack.command (revision_named ack.reply)) world.acks)

-- A number that the order or the start has, and that is one of the last that its source sent, as many as a window has at most, is
-- answered as a retry, with its revision.
abbrev pub TakenIsAgain : World → Type 0
TakenIsAgain world = (command : Command) (revision : ℕ) → 1 ≤ command.number → HasTaken world.board.start world.board.order command revision
    → last_sent command.name command.source world.sent < command.number + longest → answer world.board.state command ≡ Repeats revision

-- What readers are shown is never taken back: it is a prefix of the order, and whatever is left of that has it.
pub record ShownStays (world : World) : Type 0 where
  pub beginning : world.published ≡ takens (take (length world.published) world.board.order)
  pub stays : HowMuchIsLeft world (λ kept. length world.published ≤ kept)

-- Nothing that was promised is forgotten or rewritten, whatever happens after it: what is shown, with its deltas, and all
-- acknowledgements are beginnings of what is shown and acknowledged later.
pub record NothingRewritten (early late : World) : Type 0 where
  pub shown : early.published ≡ take (length early.published) late.published
  pub acks : early.acks ≡ take (length early.acks) late.acks

-- The state shows what the order makes of the start. How far back the two hold it may differ.
pub record StateIsFold (world : World) : Type 0 where
  pub limits : world.board.state.limits ≡ world.board.start.limits
  pub documents : all_shown world.board.state ≡ all_shown (fold world.board.start (takens world.board.order))

-- And it agrees with it: what the two hold from any floor on that neither is above is the same.
abbrev pub StateAgrees : World → Type 0
StateAgrees world = Agree world.board.state (fold world.board.start (takens world.board.order))
