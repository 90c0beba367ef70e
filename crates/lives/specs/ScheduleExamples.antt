-- A run as a schedule, computed. What comes of it is worked out by hand.
use Rattle.std.specs.Prelude.{◌≡◌, ℕ, Some, None, List, [], ◌∷◌, length, map, refl, codes}
use Rattle.std.specs.Char.{encode_utf8}
use Rattle.std.specs.Char.Utf16.{utf16_chars}
use Rattle.attributes.specs.Map.{empty, insert}
use Rattle.delta.specs.Operation.{insert_text}
use Rattle.revision.specs.Command.{Action, Create, Command}
use Rattle.revision.specs.State.{State}
use Rattle.revision.specs.Acceptance.{Reply, TakenAt, AgainAt}
use Rattle.world.specs.Progress.{Ticket}
use Rattle.world.specs.Event.{Done, Submit as Sends, Take, Device, Publish, Settle, Ack as Acknowledges, Compose}
use Rattle.world.specs.World.{World, begun}
use Rattle.world.specs.Step.{run}
use Rattle.lives.specs.declared.calls.Call.{Call}
use Rattle.lives.specs.declared.calls.Call.TheVariants.{Submit, Turn, Ack, Milestone, Retire}
use Rattle.lives.specs.declared.calls.Answer.{Answer}
use Rattle.lives.specs.declared.calls.Answer.TheVariants.{Submitted, Turned, Acked, Put, Retired}
use Rattle.lives.specs.Schedule.{schedule, acked}

-- a store without documents
abbrev empty_store : State
empty_store = record { limits = record { docs = 2; sources = 4; weight = 1000; width = 237; keep = 2; retry = 8 }; documents = [] }

abbrev ask : ℕ → Action → Command
ask number action = record { name = 100 ∷ []; source = 97 ∷ []; number = number; action = action }

abbrev create : Command
create = ask 1 (Create (insert_text (codes "z") empty ∷ []))

-- A document is created, and the creation comes again before it is written. An acknowledgement comes too early; then a turn writes the one
-- command, and the next turn finds none; both tickets are acknowledged, and a milestone is put.
abbrev calls : List Call
calls = Submit create ∷ Submit create ∷ Ack 0 ∷ Turn ∷ Turn ∷ Ack 1 ∷ Ack 0 ∷ Milestone 0 1 ∷ Retire ∷ []

-- of an answer's tokens the schedule reads whether there is one, so any will do
abbrev answers : List (Answer ℕ ℕ)
answers = Submitted 0 ∷ Submitted 1 ∷ Acked None ∷ Turned 1 ∷ Turned 0 ∷ Acked (Some []) ∷ Acked (Some []) ∷ Put ∷ Retired ∷ []

its_events : schedule 0 calls answers
    ≡ Sends create ∷ Sends create ∷ Acknowledges 0 ∷ Take 1 ∷ Device Done ∷ Publish ∷ Settle ∷ Acknowledges 1 ∷ Acknowledges 0 ∷ Compose 0 1 ∷ []
its_events = refl

abbrev after : World
after = run (begun empty_store) (schedule 0 calls answers)

abbrev said : Ticket → Reply × ℕ
said ticket = (ticket.reply, ticket.length)

its_tickets : map said after.tickets ≡ (TakenAt 1, 1) ∷ (AgainAt 1, 1) ∷ []
unfolding utf16_chars encode_utf8 insert
its_tickets = refl

-- the acknowledgements that gave a token, in the order in which they came
its_acknowledgements : map said after.acks ≡ (AgainAt 1, 1) ∷ (TakenAt 1, 1) ∷ []
unfolding utf16_chars encode_utf8 insert
its_acknowledgements = refl

as_named : map said (acked after.tickets calls answers) ≡ map said after.acks
unfolding utf16_chars encode_utf8 insert
as_named = refl

its_counts : after.board.taken ∷ after.board.settled ∷ length after.published ∷ after.without ∷ after.with_batch ∷ length after.board.order ∷ [] ≡ 1 ∷ 1 ∷ 1 ∷ 1 ∷ 1 ∷ 1 ∷ []
unfolding utf16_chars encode_utf8 insert
its_counts = refl

its_milestone : after.composed ≡ (0, 1) ∷ []
unfolding utf16_chars encode_utf8 insert
its_milestone = refl
