-- What a submission and an acknowledgement give, by what the board answered.
use Rattle.std.proofs.Common.{◌≡◌, ◌≤◌, ◌+◌, ℕ, Bool, true, false, Option, Some, None, List, [], ◌∷◌, ◌++◌, length, refl, ◌∙◌, ap, arith, length-append}
use Rattle.std.specs.Prelude.{Ok}
use Rattle.disk.specs.declared.device.Disk.{Ghosts}
use Rattle.revision.specs.Command.{Taken, Command}
use Rattle.revision.specs.State.{State}
use Rattle.recovery.specs.Found.{commands_of}
use Rattle.recovery.specs.declared.store.Store.{Store}
use Rattle.world.specs.Progress.{Progress, Ticket, can_ack, submitted, ticket_of}
use Rattle.world.specs.World.{Entry, entry_of, takens}
use Rattle.published.proofs.CallerLemmas.{takens_long}
use Rattle.hub.specs.Legal.{Board, counted}
use Rattle.hub.specs.Placed.{StandsFirst}
use Rattle.hub.specs.Moves.{IsAcked, IsSubmittedTo, StandsAt}
use Rattle.lives.specs.Driving.{AckGives}
use Rattle.lives.proofs.Counting.{counts_more}

-- a ticket whose order is a prefix of commands is no longer than these
holds : (start : State) (ticket : Ticket) (commands : List Taken) → StandsFirst start ticket commands → ticket.length ≤ length commands
holds start ticket commands stands =
    omega (arith, stands.placed.long, takens_long stands.order, ap length stands.first.1, length-append (takens stands.order) stands.first.0)

-- an acknowledgement, where the store works
pub acks : {E : Type 0} (start : State) (board : Board) (ticket : Ticket) (told : Option (List (List Taken))) → board.failed ≡ false
    → IsAcked {E = E} board ticket (Ok told) → StandsAt {E = E} start ticket (Ok told) → AckGives board (Some ticket) told
acks start board ticket None works acked stands = (acked.waits.0 refl).0
acks start board ticket (Some told) works acked stands = by_length (can_ack board.progress ticket) refl
  where
    by_length : (can : Bool) → can_ack board.progress ticket ≡ can → AckGives board (Some ticket) (Some told)
    by_length true settled =
        let same : told ≡ board.told = cc (acked.settled.0 settled) in
        (settled, same, holds start ticket (commands_of told) stands)
    by_length false behind = absurd (cc (acked.waits.1 (behind, works)))

module _ (start : State) (old new : Board) (command : Command) (works : old.failed ≡ false) where
  -- the command of a ticket is behind the order, where it was taken
  pub step_given : (ticket : Ticket) → IsSubmittedTo start old command (Ok ticket) new → new.progress ≡ submitted (entry_of command) old.progress command
  step_given ticket given = (given.answered works).moves

  pub counts_given : (before after : ℕ) (ticket : Ticket) → IsSubmittedTo start old command (Ok ticket) new → after ≡ counted before ticket.reply
      → after + length old.progress.order ≡ before + length new.progress.order
  counts_given before after ticket given counts =
      counts_more before after old.progress new.progress command ticket (step_given ticket given) (given.answered works).ticket counts

  module _ {D : Type 0} {disk : Ghosts D} (store : Store D disk) (tickets out : List Ticket) where
    -- as `Gives` says it
    pub gives_ticket : (ticket : Ticket) (at : ℕ) → IsSubmittedTo start old command (Ok ticket) new → at ≡ length tickets → out ≡ tickets ++ ticket ∷ []
        → (new ≡ record old { progress = submitted (entry_of command) old.progress command }) × (at ≡ length tickets)
        × ((t : Ticket) × (Some t ≡ ticket_of old.progress command) × (out ≡ tickets ++ t ∷ [])) × (store ≡ store)
    gives_ticket ticket at given place more =
        (given.others ∙ ap (λ (p : Progress Entry). record old { progress = p }) (step_given ticket given), place, (ticket, (given.answered works).ticket, more), refl)
