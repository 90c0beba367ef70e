-- Where the command of a ticket stands in the order.
use Rattle.std.proofs.Common.{◌≡◌, ℕ, ◌+◌, ◌≤◌, ◌<◌, ◌^◌, List, [], ◌∷◌, ◌++◌, length, take, drop, refl, sym, ap, subst, ◌∙◌, arith, length-append, length-drop}
use Rattle.std.specs.Prelude.{Some, zero, suc}
use mathlib.Core.List.{IsPrefix}
use Rattle.revision.specs.Command.{Taken, Command}
use Rattle.revision.specs.State.{State, grown, fold}
use Rattle.revision.specs.Acceptance.{Answer, Takes, Repeats, Refuses, Reply, TakenAt, AgainAt, answer}
use Rattle.world.specs.Progress.{Progress, Ticket, submitted, submitted_by, ticket_by, ticket_of}
use Rattle.world.specs.World.{Entry, entry_of, takens}
use Rattle.published.specs.Order.{HasNumber}
use Rattle.hub.specs.Legal.{IsHistory}
use Rattle.hub.specs.Placed.{PlacedBy, IsPlaced, WasSubmitted}
use Rattle.hub.specs.Runs.{IsPart}
use Rattle.hub.proofs.Histories.{counts}
use Rattle.published.proofs.CallerLemmas.{takens_long}

-- A command was taken: it is put behind the order.
pub record TakenLast (start : State) (order : List Entry) (ticket : Ticket) (new : Progress Entry) (revision : ℕ) : Type 0 where
  pub taken : Taken
  pub longer : new.order ≡ order ++ entry_of ticket.command taken ∷ []
  pub state : new.state ≡ grown (fold start (takens order)) taken
  pub answered : answer (fold start (takens order)) ticket.command ≡ Takes taken
  pub made : taken.revision ≡ revision
  pub long : ticket.length ≡ length order + 1
  pub within : new.taken ≤ length order

-- A command was there before: the order stays.
pub record WasBefore (start : State) (order : List Entry) (ticket : Ticket) (new : Progress Entry) (revision : ℕ) : Type 0 where
  pub same : new.order ≡ order
  pub answered : answer (fold start (takens order)) ticket.command ≡ Repeats revision
  pub long : ticket.length ≡ length order

module _ (old : Progress Entry) (ticket : Ticket) (new : Progress Entry) (history : IsHistory old) (within : old.taken ≤ length old.order) where
  taken_by : (due : Answer) (revision : ℕ) → answer old.state ticket.command ≡ due → new ≡ submitted_by (entry_of ticket.command) old due
      → Some ticket ≡ ticket_by old ticket.command due → ticket.reply ≡ TakenAt revision → TakenLast old.start old.order ticket new revision
  taken_by (Takes taken) revision is submits given replied =
      let same : ticket ≡ record { command = ticket.command; reply = TakenAt taken.revision; length = length old.order + 1 } = cc in
      let reply : TakenAt taken.revision ≡ TakenAt revision = sym (ap (λ (t : Ticket). t.reply) same) ∙ replied in
      record {
        taken = taken;
        longer = ap (λ (b : Progress Entry). b.order) submits;
        state = ap (λ (b : Progress Entry). b.state) submits ∙ ap (λ s. grown s taken) history.state;
        answered = ap (λ s. answer s ticket.command) (sym history.state) ∙ is;
        made = cc (reply);
        long = ap (λ (t : Ticket). t.length) same;
        within = omega (arith, within, ap (λ (b : Progress Entry). b.taken) submits);
      }
  taken_by (Repeats other) revision is submits given replied =
      let same : ticket ≡ record { command = ticket.command; reply = AgainAt other; length = length old.order } = cc in
      let reply : AgainAt other ≡ TakenAt revision = sym (ap (λ (t : Ticket). t.reply) same) ∙ replied in absurd (cc (reply))
  taken_by (Refuses refusal) revision is submits given replied = absurd (cc)

  again_by : (due : Answer) (revision : ℕ) → answer old.state ticket.command ≡ due → new ≡ submitted_by (entry_of ticket.command) old due
      → Some ticket ≡ ticket_by old ticket.command due → ticket.reply ≡ AgainAt revision → WasBefore old.start old.order ticket new revision
  again_by (Takes taken) revision is submits given replied =
      let same : ticket ≡ record { command = ticket.command; reply = TakenAt taken.revision; length = length old.order + 1 } = cc in
      let reply : TakenAt taken.revision ≡ AgainAt revision = sym (ap (λ (t : Ticket). t.reply) same) ∙ replied in absurd (cc (reply))
  again_by (Repeats other) revision is submits given replied =
      let same : ticket ≡ record { command = ticket.command; reply = AgainAt other; length = length old.order } = cc in
      let reply : AgainAt other ≡ AgainAt revision = sym (ap (λ (t : Ticket). t.reply) same) ∙ replied in
      let made : other ≡ revision = cc (reply) in
      record {
        same = ap (λ (b : Progress Entry). b.order) submits;
        answered = ap (λ s. answer s ticket.command) (sym history.state) ∙ (is ∙ ap (λ n. Repeats n) made);
        long = ap (λ (t : Ticket). t.length) same;
      }
  again_by (Refuses refusal) revision is submits given replied = absurd (cc)

module _ (start : State) (order : List Entry) (ticket : Ticket) (new : Progress Entry) (was : WasSubmitted start order ticket new) where
  pub taken_last : (revision : ℕ) → ticket.reply ≡ TakenAt revision → TakenLast start order ticket new revision
  taken_last revision replied =
      subst (λ s. TakenLast s order ticket new revision) was.begun (subst (λ o. TakenLast was.old.start o ticket new revision) (sym was.ordered)
      (taken_by was.old ticket new was.history was.within (answer was.old.state ticket.command) revision refl was.submits was.given replied))

  pub was_before : (revision : ℕ) → ticket.reply ≡ AgainAt revision → WasBefore start order ticket new revision
  was_before revision replied =
      subst (λ s. WasBefore s order ticket new revision) was.begun (subst (λ o. WasBefore was.old.start o ticket new revision) (sym was.ordered)
      (again_by was.old ticket new was.history was.within (answer was.old.state ticket.command) revision refl was.submits was.given replied))

  placed_reply : (reply : Reply) (o : List Entry) → PlacedBy start o ticket.command reply → ticket.reply ≡ reply → PlacedBy start o ticket.command ticket.reply
  placed_reply reply o placed is = subst (PlacedBy start o ticket.command) (sym is) placed

  pub placed_taken : (revision : ℕ) → ticket.reply ≡ TakenAt revision → (after : List Entry) → after ≡ new.order → IsPlaced start after ticket
  placed_taken revision replied after is =
      let last = taken_last revision replied in
      let entry = entry_of ticket.command last.taken in
      let whole : after ≡ order ++ entry ∷ [] = is ∙ last.longer in
      record {
        long = ap length whole ∙ (length-append order (entry ∷ []) ∙ sym last.long);
        reply = placed_reply (TakenAt revision) after (order, last.taken, whole, last.answered, last.made) replied;
      }

module _ {A : Type 0} where
  parts : (m : ℕ) (cs zs : List A) → cs ≡ take m zs → cs ++ drop m zs ≡ zs
  parts zero cs zs part = ap (λ l. l ++ zs) part
  parts (suc m) cs [] part = ap (λ l. l ++ []) part
  parts (suc m) cs (z ∷ zs) part = ap (λ l. l ++ drop m zs) part ∙ ap (λ l. z ∷ l) (parts m (take m zs) zs refl)

  -- a prefix, and the part behind it
  pub part-behind : (xs cs zs : List A) (n : ℕ) → n ≡ length xs → IsPrefix xs zs → cs ≡ take (length cs) (drop n zs) → IsPrefix (xs ++ cs) zs
  part-behind [] cs zs zero is begin part = (drop (length cs) zs, parts (length cs) cs zs part)
  part-behind [] cs zs (suc n) is begin part = absurd (omega (arith, is))
  part-behind (x ∷ xs) cs zs zero is begin part = absurd (omega (arith, is))
  part-behind (x ∷ xs) cs [] (suc n) is begin part = absurd (cc (begin.1))
  part-behind (x ∷ xs) cs (z ∷ zs) (suc n) is begin part =
      let heads : x ≡ z = cc (begin.1) in
      let rest = part-behind xs cs zs n (omega (arith, is)) (begin.0, cc (begin.1)) part in (rest.0, cc (heads, rest.1))

-- what a board was given, as `order_taken` wants it
pub was_submitted : (start : State) (order : List Entry) (old : Progress Entry) (command : Command) (ticket : Ticket) (new : Progress Entry) → order ≡ old.order
    → old.start ≡ start → IsHistory old → old.taken ≤ length old.order → new ≡ submitted (entry_of command) old command
    → Some ticket ≡ ticket_of old command → HasNumber command → WasSubmitted start order ticket new
was_submitted start order old command ticket new ordered begun history within submits given numbered =
    let same : ticket.command ≡ command = (counts old command ticket given).1 in
    record {
      old = old;
      ordered = ordered;
      begun = begun;
      history = history;
      within = within;
      submits = submits ∙ ap (λ c. submitted (entry_of c) old c) (sym same);
      given = given ∙ ap (λ c. ticket_of old c) (sym same);
      numbered = subst HasNumber (sym same) numbered;
    }

pub takens-take : (n : ℕ) (entries : List Entry) → takens (take n entries) ≡ take n (takens entries)
takens-take zero entries = refl
takens-take (suc n) [] = refl
takens-take (suc n) (first ∷ others) = ap (λ l. first.taken ∷ l) (takens-take n others)

pub takens-drop : (n : ℕ) (entries : List Entry) → takens (drop n entries) ≡ drop n (takens entries)
takens-drop zero entries = refl
takens-drop (suc n) [] = refl
takens-drop (suc n) (first ∷ others) = takens-drop n others

-- the next commands of an order, as a run has them
pub part_of : (order : List Entry) (commands : List Taken) (taken : ℕ) → length order < 2 ^ 64 → taken ≤ length order → length commands ≤ length (takens (drop taken order))
    → commands ≡ takens (take (length commands) (drop taken order)) → IsPart commands taken order
part_of order commands taken fits bound within next = record {
  within = omega (arith, bound, within, takens_long (drop taken order), length-drop taken order);
  few = omega (arith, fits, bound, within, takens_long (drop taken order), length-drop taken order);
  part = next ∙ (takens-take (length commands) (drop taken order) ∙ ap (take (length commands)) (takens-drop taken order));
}

-- a run continues what is published
pub goes_on_by : (told commands named : List Taken) (place at : ℕ) (order copy : List Entry) → copy ≡ order → commands ≡ named → place ≡ at → at ≡ length told
    → IsPart commands place order → IsPrefix told (takens order) → IsPrefix (told ++ named) (takens copy)
goes_on_by told commands named place at order copy same is there long part begin =
    subst (λ o. IsPrefix (told ++ named) (takens o)) (sym same)
    (subst (λ l. IsPrefix (told ++ l) (takens order)) is (part-behind told commands (takens order) place (there ∙ long) begin part.part))
