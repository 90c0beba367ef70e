-- What a seat counts is what the order gets.
use Rattle.std.proofs.Common.{◌≡◌, ℕ, ◌+◌, [], ◌∷◌, length, ◌∙◌, sym, ap, arith, length-append}
use Rattle.std.specs.Prelude.{Some}
use Rattle.revision.specs.Command.{Command}
use Rattle.revision.specs.Acceptance.{Answer, Takes, Repeats, Refuses, TakenAt, AgainAt, answer}
use Rattle.world.specs.Progress.{Progress, Ticket, submitted, submitted_by, ticket_by, ticket_of}
use Rattle.world.specs.World.{Entry, entry_of}
use Rattle.hub.specs.Legal.{counted}

by_answer : (seat : ℕ) (board : Progress Entry) (command : Command) (due : Answer) (ticket : Ticket) → Some ticket ≡ ticket_by board command due
    → counted seat ticket.reply + length board.order ≡ seat + length (submitted_by (entry_of command) board due).order
by_answer seat board command (Takes taken) ticket is =
    let same : ticket ≡ record { command = command; reply = TakenAt taken.revision; length = length board.order + 1 } = cc in
    omega (arith, ap (λ (t : Ticket). counted seat t.reply) same, length-append board.order (entry_of command taken ∷ []))
by_answer seat board command (Repeats revision) ticket is =
    let same : ticket ≡ record { command = command; reply = AgainAt revision; length = length board.order } = cc in
    ap (λ (t : Ticket). counted seat t.reply + length board.order) same
by_answer seat board command (Refuses refusal) ticket is = absurd (cc)

-- a command that was submitted, whatever came of it
pub counts_more : (before after : ℕ) (board new : Progress Entry) (command : Command) (ticket : Ticket) → new ≡ submitted (entry_of command) board command
    → Some ticket ≡ ticket_of board command → after ≡ counted before ticket.reply → after + length board.order ≡ before + length new.order
counts_more before after board new command ticket is given counts =
    ap (λ (n : ℕ). n + length board.order) counts ∙ by_answer before board command (answer board.state command) ticket given
    ∙ sym (ap (λ (b : Progress Entry). before + length b.order) is)
