-- A command more leaves the order a legal history.
use Rattle.std.proofs.Common.{◌≡◌, ℕ, ◌+◌, arith, List, [], ◌∷◌, ◌++◌, length, refl, sym, ap, subst, ◌∙◌, append_assoc, length-append}
use Rattle.std.specs.Prelude.{Some}
use Rattle.std.proofs.lemmas.List.{map-append}
use mathlib.Core.List.{IsPrefix}
use Rattle.revision.specs.Command.{Taken, Command}
use Rattle.revision.specs.State.{State, grown, fold}
use Rattle.revision.specs.Acceptance.{Answer, Takes, Repeats, Refuses, Reply, TakenAt, AgainAt, answer}
use Rattle.world.specs.Progress.{Progress, Ticket, submitted, submitted_by, ticket_by, ticket_of}
use Rattle.world.specs.World.{Entry, entry_of, takens}
use Rattle.recovery.specs.Found.{commands_of}
use Rattle.published.specs.Order.{HasNumber}
use Rattle.published.proofs.CallerLemmas.{legal_more}
use Rattle.hub.specs.Legal.{IsHistory, IsWithin, counted}

pub fold-more : (state : State) (commands : List Taken) (taken : Taken) → fold state (commands ++ taken ∷ []) ≡ grown (fold state commands) taken
fold-more state [] taken = refl
fold-more state (first ∷ others) taken = fold-more (grown state first) others taken

-- what begins the order begins it with one more
begins-more : (xs : List Taken) (order : List Entry) (entry : Entry) → IsPrefix xs (takens order) → IsPrefix xs (takens (order ++ entry ∷ []))
begins-more xs order entry (more, is) = (
  more ++ entry.taken ∷ [],
  sym (append_assoc xs more (entry.taken ∷ [])) ∙ ap (λ l. l ++ entry.taken ∷ []) is ∙ sym (map-append (λ (e : Entry). e.taken) order (entry ∷ [])),
)

module _ (board : Progress Entry) (command : Command) where
  answered : (due : Answer) → HasNumber command → IsHistory board → answer board.state command ≡ due → IsHistory (submitted_by (entry_of command) board due)
  answered (Takes taken) numbered history is = record {
    legal = legal_more board.start board.order (entry_of command taken) history.legal (numbered, ap (λ s. answer s command) (sym history.state) ∙ is);
    state = ap (λ s. grown s taken) history.state ∙ sym (ap (fold board.start) (map-append (λ (e : Entry). e.taken) board.order (entry_of command taken ∷ []))
        ∙ fold-more board.start (takens board.order) taken);
  }
  answered (Repeats revision) numbered history is = history
  answered (Refuses refusal) numbered history is = history

  history_submitted : HasNumber command → IsHistory board → IsHistory (submitted (entry_of command) board command)
  history_submitted numbered history = answered (answer board.state command) numbered history refl

  counted_by : (due : Answer) (ticket : Ticket) → Some ticket ≡ ticket_by board command due
      → (length (submitted_by (entry_of command) board due).order ≡ counted (length board.order) ticket.reply) × (ticket.command ≡ command)
  counted_by (Takes taken) ticket is =
      let same : ticket ≡ record { command = command; reply = TakenAt taken.revision; length = length board.order + 1 } = cc in (
        length-append board.order (entry_of command taken ∷ []) ∙ sym (ap (λ (t : Ticket). counted (length board.order) t.reply) same),
        ap (λ (t : Ticket). t.command) same,
      )
  counted_by (Repeats revision) ticket is =
      let same : ticket ≡ record { command = command; reply = AgainAt revision; length = length board.order } = cc in (
        sym (ap (λ (t : Ticket). counted (length board.order) t.reply) same),
        ap (λ (t : Ticket). t.command) same,
      )
  counted_by (Refuses refusal) ticket is = absurd (cc)

  pub counts : (ticket : Ticket) → Some ticket ≡ ticket_of board command
      → (length (submitted (entry_of command) board command).order ≡ counted (length board.order) ticket.reply) × (ticket.command ≡ command)
  counts ticket is = counted_by (answer board.state command) ticket is

  within_by : (told : List (List Taken)) (due : Answer) → IsWithin board told → IsWithin (submitted_by (entry_of command) board due) told
  within_by told (Takes taken) within = record {
    settled = within.settled;
    taken = omega (arith, within.taken, length-append board.order (entry_of command taken ∷ []));
    published = within.published;
    begins = begins-more (commands_of told) board.order (entry_of command taken) within.begins;
  }
  within_by told (Repeats revision) within = within
  within_by told (Refuses refusal) within = within

  start_by : (due : Answer) → (submitted_by (entry_of command) board due).start ≡ board.start
  start_by (Takes taken) = refl
  start_by (Repeats revision) = refl
  start_by (Refuses refusal) = refl

  -- all that a board's type says holds on
  pub submitted_goes_on : (new : Progress Entry) (told : List (List Taken)) (start : State) (total after : ℕ) (reply : Reply) (ticket : Ticket)
      → new ≡ submitted (entry_of command) board command → Some ticket ≡ ticket_of board command → reply ≡ ticket.reply
      → HasNumber command → IsHistory board → IsWithin board told → board.start ≡ start → total ≡ length board.order → after ≡ counted total reply
      → IsHistory new × IsWithin new told × (new.start ≡ start) × (after ≡ length new.order)
  submitted_goes_on new told start total after reply ticket is given replied numbered history within begun sum counts_it = (
    subst IsHistory (sym is) (history_submitted numbered history),
    subst (λ (b : Progress Entry). IsWithin b told) (sym is) (within_by told (answer board.state command) within),
    ap (λ (b : Progress Entry). b.start) is ∙ start_by (answer board.state command) ∙ begun,
    counts_it ∙ ap (λ n. counted n reply) sum ∙ ap (λ r. counted (length board.order) r) replied
        ∙ sym ((counts ticket given).0) ∙ sym (ap (λ (b : Progress Entry). length b.order) is),
  )
