-- Tickets as the order grows and is cut: a ticket tells what its source had after so much of the order.
use Rattle.std.proofs.Common.{◌≡◌, ℕ, true, false, ◌+◌, ◌≤◌, ◌<◌, Some, List, [], ◌∷◌, ◌++◌, length, take, sym, ap, ◌∙◌, subst, arith, inl, inr}
use Rattle.std.specs.Prelude.{◌⊎◌}
use Rattle.std.proofs.lemmas.Bool.{both_ways, cases_lt}
use Rattle.std.proofs.lemmas.List.{take-append-le, take-take, length-append, length-take-le, map-append}
use Rattle.revision.specs.Window.{longest, taken_next, revision_in}
use Rattle.revision.specs.Command.{Command}
use Rattle.revision.proofs.CallerLemmas.{shifts}
use Rattle.world.specs.Progress.{Ticket}
use Rattle.world.specs.World.{Entry, is_of, takens}
use Rattle.world.specs.Law.{IsSent, Made, revision_named}
use Rattle.world.specs.Shown.{Shown}
pub use Rattle.world.specs.steps.Holding.{Stands}
use Rattle.world.proofs.Showing.{grown_shown, fold_shown, fold_shown-append}
use Rattle.world.proofs.Numbers.{window_in, Placed}
use Rattle.world.proofs.Histories.{AllPlaced, after, placed-rest, placed-take, step-window, sender_same, same_revision, still_made}

pub stands-more : (documents : List Shown) (entries : List Entry) (entry : Entry) (ticket : Ticket) → Stands documents entries ticket
    → Stands documents (entries ++ entry ∷ []) ticket
stands-more documents entries entry ticket stands = record {
  within = omega (arith, stands.within, length-append entries (entry ∷ []));
  made = ap (λ l. revision_in ticket.command.number (window_in ticket.command.name ticket.command.source (after documents l))) (take-append-le ticket.length entries (entry ∷ []) stands.within) ∙ stands.made;
}

pub stands-take : (documents : List Shown) (entries : List Entry) (kept : ℕ) (ticket : Ticket) → kept ≤ length entries → ticket.length ≤ kept → Stands documents entries ticket
    → Stands documents (take kept entries) ticket
stands-take documents entries kept ticket most le stands = record {
  within = omega (arith, le, length-take-le kept entries most);
  made = ap (λ l. revision_in ticket.command.number (window_in ticket.command.name ticket.command.source (after documents l))) (take-take ticket.length kept entries le) ∙ stands.made;
}

-- after one command more
pub after-more : (documents : List Shown) (entries : List Entry) (entry : Entry) → after documents (entries ++ entry ∷ []) ≡ grown_shown entry.taken (after documents entries)
after-more documents entries entry =
    ap (fold_shown documents) (map-append (λ (e : Entry). e.taken) entries (entry ∷ [])) ∙ fold_shown-append documents (takens entries) (entry.taken ∷ [])

-- after it its number has made its revision
pub made-last : (documents : List Shown) (entries : List Entry) (entry : Entry) (command : Command) (revision : ℕ) → Placed (after documents entries) entry
    → Made command revision entry
    → revision_in command.number (window_in command.name command.source (after documents (entries ++ entry ∷ []))) ≡ Some revision
made-last documents entries entry command revision placed made =
    ap (λ d. revision_in command.number (window_in command.name command.source d)) (after-more documents entries entry)
    ∙ by_step (step-window command.name command.source (after documents entries) entry placed)
  where
    by_step : ((is_of command.name command.source entry.command ≡ true)
        × (window_in command.name command.source (grown_shown entry.taken (after documents entries)) ≡ taken_next (window_in command.name command.source (after documents entries)) entry.taken.revision)
        × (entry.taken.number ≡ (window_in command.name command.source (after documents entries)).number + 1))
        ⊎ ((is_of command.name command.source entry.command ≡ false)
        × (window_in command.name command.source (grown_shown entry.taken (after documents entries)) ≡ window_in command.name command.source (after documents entries)))
        → revision_in command.number (window_in command.name command.source (grown_shown entry.taken (after documents entries))) ≡ Some revision
    by_step (inl h) =
        let number : command.number ≡ (window_in command.name command.source (after documents entries)).number + 1 = made.0.2 ∙ (sym placed.number ∙ h.2) in
        ap (revision_in command.number) h.1
        ∙ (ap (λ k. revision_in k (taken_next (window_in command.name command.source (after documents entries)) entry.taken.revision)) number
        ∙ ((shifts (window_in command.name command.source (after documents entries)) entry.taken.revision).newest ∙ ap (λ r. Some r) made.1))
    by_step (inr h) = absurd (both_ways (is_of command.name command.source entry.command) h.0 (sender_same command entry.command made.0.0 made.0.1))

-- the rest of an order after its beginning
pub rest-after : (documents : List Shown) (entries : List Entry) (n : ℕ) (rest : List Entry) → entries ≡ take n entries ++ rest
    → after documents entries ≡ after (after documents (take n entries)) rest
rest-after documents entries n rest e =
    ap (after documents) e ∙ (ap (fold_shown documents) (map-append (λ (t : Entry). t.taken) (take n entries) rest) ∙ fold_shown-append documents (takens (take n entries)) (takens rest))

-- what a number of a source made after the beginning of an order, and after more of it
module _ (name source : List ℕ) (documents : List Shown) (entries : List Entry) (placed : AllPlaced documents entries) where
  same_revision-from : (n number before now : ℕ) → revision_in number (window_in name source (after documents (take n entries))) ≡ Some before
      → revision_in number (window_in name source (after documents entries)) ≡ Some now → before ≡ now
  same_revision-from n number before now was is =
      let rest = placed-rest n documents entries placed in
      same_revision name source (after documents (take n entries)) rest.0 rest.2 number before now was
      (ap (λ d. revision_in number (window_in name source d)) (sym (rest-after documents entries n rest.0 rest.1)) ∙ is)

  pub still_made-from : (n number revision : ℕ) → revision_in number (window_in name source (after documents (take n entries))) ≡ Some revision
      → (window_in name source (after documents entries)).number < number + longest → revision_in number (window_in name source (after documents entries)) ≡ Some revision
  still_made-from n number revision was few =
      let rest = placed-rest n documents entries placed in
      let same = rest-after documents entries n rest.0 rest.1 in
      ap (λ d. revision_in number (window_in name source d)) same
      ∙ still_made name source (after documents (take n entries)) rest.0 rest.2 number revision was (subst (λ d. (window_in name source d).number < number + longest) same few)

-- after two lengths of one order a number that made a revision made the same
ordered : (name source : List ℕ) (documents : List Shown) (entries : List Entry) → AllPlaced documents entries → (m n number before now : ℕ) → m ≤ n
    → revision_in number (window_in name source (after documents (take m entries))) ≡ Some before
    → revision_in number (window_in name source (after documents (take n entries))) ≡ Some now → before ≡ now
ordered name source documents entries placed m n number before now le was is =
    same_revision-from name source documents (take n entries) (placed-take n documents entries placed) m number before now
    (ap (λ l. revision_in number (window_in name source (after documents l))) (take-take m n entries le) ∙ was) is

pub one_revision : (documents : List Shown) (entries : List Entry) → AllPlaced documents entries → (a b : Ticket) → Stands documents entries a → Stands documents entries b
    → IsSent a.command b.command → revision_named a.reply ≡ revision_named b.reply
one_revision documents entries placed a b first second same = elim (cases_le a.length b.length) [
  | inl le ↦ ordered a.command.name a.command.source documents entries placed a.length b.length a.command.number _ _ le first.made other
  | inr le ↦ sym (ordered a.command.name a.command.source documents entries placed b.length a.length a.command.number _ _ le other first.made)
]
  where
    other : revision_in a.command.number (window_in a.command.name a.command.source (after documents (take b.length entries))) ≡ Some (revision_named b.reply)
    other =
        ap (λ k. revision_in k (window_in a.command.name a.command.source (after documents (take b.length entries)))) same.2
        ∙ (ap (λ n. revision_in b.command.number (window_in n a.command.source (after documents (take b.length entries)))) same.0
        ∙ (ap (λ s. revision_in b.command.number (window_in b.command.name s (after documents (take b.length entries)))) same.1 ∙ second.made))

    cases_le : (m n : ℕ) → (m ≤ n) ⊎ (n ≤ m)
    cases_le m n = elim (cases_lt m n) [ inl lt ↦ inl (omega arith) | inr le ↦ inr le ]
