-- What a desk at a hub acknowledged has its place in the order, and its seat counted just that.
use Rattle.std.proofs.Common.{◌≡◌, ◌⊎◌, inl, inr, ℕ, ◌+◌, List, [], ◌∷◌, ◌++◌, true, refl, sym, ◌∙◌, ap, subst}
use Rattle.std.specs.Prelude.{Ok, Err, Some, None}
use Rattle.std.proofs.lemmas.List.{map-append}
use mathlib.Core.List.{IsPrefix}
use Rattle.refusal.specs.declared.Refusal.{Refusal}
use Rattle.refusal.specs.declared.Refusal.TheVariants.{StoreFailed}
use Rattle.revision.specs.Command as commands
use Rattle.revision.specs.Command.{Command}
use Rattle.revision.specs.State.{State}
use Rattle.revision.specs.Acceptance as acceptance
use Rattle.revision.specs.Acceptance.{TakenAt, AgainAt, Refused}
use Rattle.recovery.specs.Found.{commands_of}
use Rattle.world.specs.Progress.{Ticket}
use Rattle.world.specs.World.{Entry, entry_of, takens}
use Rattle.published.proofs.CallerLemmas.{prefix_trans, takens_begin}
use Rattle.flusher.proofs.CallerLemmas.{commands-append}
use Rattle.hub.specs.Legal.{counted}
use Rattle.hub.specs.Placed.{PlacedBy}
use Rattle.session.specs.declared.reply.Reply.{Reply}
use Rattle.session.specs.declared.reply.Reply.TheVariants.{Taken, Again}
use Rattle.session.specs.Alone.{answered}
use Rattle.session.specs.Exchange.{Exchange, Answered, Shown}
use Rattle.session.specs.Replies.{Asks}
use Rattle.hub_desk.specs.AtHub.{Desk, Finds, PassesAtHub, Refuses, Submits}
use Rattle.hub_desk.proofs.CallerLemmas.{found_through, told_through}
use Rattle.server_threads.specs.Answers.{HasCause, AllHaveCauses, HasPlace, AllHavePlaces, Counts}

-- the commands of a prefix of the batches are a prefix of the commands of all
pub commands_first : (first all : List (List commands.Taken)) → IsPrefix first all → IsPrefix (commands_of first) (commands_of all)
commands_first first all (more, whole) = (commands_of more, sym (commands-append first more) ∙ ap commands_of whole)

-- where its order begins another one, a command has its place there by its reply
place_by : (start : State) (given : acceptance.Reply) (reply : Reply) (command : Command) (before : List Entry) (order : List commands.Taken)
    → PlacedBy start before command given → IsPrefix (takens before) order → answered given ≡ Ok reply → HasPlace start order command reply
place_by start (TakenAt revision) reply command order all (before, taken, is, takes, at) first same =
    let whole : takens order ≡ takens before ++ taken ∷ [] = ap takens is ∙ map-append (λ (e : Entry). e.taken) before (entry_of command taken ∷ []) in
    let told : Taken revision ≡ reply = cc same in
    subst (λ (r : Reply). HasPlace start all command r) told
    (takens before, taken, subst (λ (l : List commands.Taken). IsPrefix l all) whole first, takes, at)
place_by start (AgainAt revision) reply command order all repeats first same =
    let told : Again revision ≡ reply = cc same in
    subst (λ (r : Reply). HasPlace start all command r) told (takens order, first, repeats)
place_by start (Refused refusal) reply command order all placed first same = absurd placed

-- each command that a desk acknowledged has, in an order that begins with what it was told of in the end
pub all_have_places : (start : State) (old last : Desk) (asked : List Exchange) (all : List commands.Taken) → Asks (PassesAtHub start) old asked last
    → IsPrefix (commands_of last.told) all → AllHavePlaces start all asked
all_have_places start old last [] all asks within = tt
all_have_places start old last (Answered command (Ok reply) ∷ others) all (next, passes, rest) within =
    let further : IsPrefix next.told last.told = told_through start others next last rest in
    let long : IsPrefix (commands_of next.told) all =
    prefix_trans (commands_of next.told) (commands_of last.told) all (commands_first next.told last.told further) within in
    let first : IsPrefix (takens passes.stands.order) all = prefix_trans (takens passes.stands.order) (commands_of next.told) all passes.stands.first long in
    let place : HasPlace start all passes.ticket.command reply =
    place_by start passes.ticket.reply reply passes.ticket.command passes.stands.order all passes.stands.placed.reply first passes.answer in
    (subst (λ (c : Command). HasPlace start all c reply) passes.submits.of_command place, all_have_places start next last others all rest within)
all_have_places start old last (Answered command (Err refusal) ∷ others) all (next, passes, rest) within = all_have_places start next last others all rest within
all_have_places start old last (Shown (Some state) ∷ others) all (next, passes, rest) within = all_have_places start next last others all rest within
all_have_places start old last (Shown None ∷ others) all (next, passes, rest) within = all_have_places start next last others all rest within

-- a command was refused by what was found then, within an order that begins with that
cause_by : (start : State) (old next : Desk) (command : Command) (refusal : Refusal) (order : List Entry) → Refuses start old command refusal next
    → IsPrefix next.found order → HasCause start (takens order) command refusal
cause_by start old next command refusal order (inl none) within = inl none.1
cause_by start old next command refusal order (inr (inr stops)) within = inr (inl stops.0)
cause_by start old next command refusal order (inr (inl refused)) within =
    elim refused.refused.rule [
      | inl memory ↦ inl memory
      | inr by_rule ↦ inr (inr (takens next.found, takens_begin next.found order within, by_rule))
    ]

-- each command that a desk refused has its cause, in an order that begins with what it found in the end
pub all_have_causes : (start : State) (old last : Desk) (asked : List Exchange) (order : List Entry) → Asks (PassesAtHub start) old asked last
    → IsPrefix last.found order → AllHaveCauses start (takens order) asked
all_have_causes start old last [] order asks within = tt
all_have_causes start old last (Answered command (Ok reply) ∷ others) order (next, passes, rest) within = all_have_causes start next last others order rest within
all_have_causes start old last (Answered command (Err refusal) ∷ others) order (next, passes, rest) within = (
  cause_by start old next command refusal order passes (prefix_trans next.found last.found order (found_through start others next last rest) within),
  all_have_causes start next last others order rest within,
)
all_have_causes start old last (Shown (Some state) ∷ others) order (next, passes, rest) within = all_have_causes start next last others order rest within
all_have_causes start old last (Shown None ∷ others) order (next, passes, rest) within = all_have_causes start next last others order rest within

-- one more where it was taken, and no more where it was taken before
counted_taken : (count revision : ℕ) (given : acceptance.Reply) → answered given ≡ Ok (Taken revision) → counted count given ≡ count + 1
counted_taken count revision (TakenAt at) is = refl
counted_taken count revision (AgainAt at) is = absurd (cc is)
counted_taken count revision (Refused refusal) is = absurd (cc is)

counted_again : (count revision : ℕ) (given : acceptance.Reply) → answered given ≡ Ok (Again revision) → counted count given ≡ count
counted_again count revision (TakenAt at) is = absurd (cc is)
counted_again count revision (AgainAt at) is = refl
counted_again count revision (Refused refusal) is = absurd (cc is)

counted_either : (count : ℕ) (given : acceptance.Reply) → (counted count given ≡ count) ⊎ (counted count given ≡ count + 1)
counted_either count (TakenAt at) = inr refl
counted_either count (AgainAt at) = inl refl
counted_either count (Refused refusal) = inl refl

-- how many a desk has counted where a command was refused
refused_counts : (start : State) (old next : Desk) (command : Command) (refusal : Refusal) → Refuses start old command refusal next
    → (next.counted ≡ old.counted) ⊎ ((refusal ≡ StoreFailed) × (next.counted ≡ old.counted + 1))
refused_counts start old next command refusal (inl same) = inl (ap (λ (d : Desk). d.counted) same.0)
refused_counts start old next command refusal (inr (inl refused)) = inl (ap (λ (d : Desk). d.counted) refused.others)
refused_counts start old next command refusal (inr (inr (failed, stops))) = by_submits stops.submits
  where
    by_submits : ((next ≡ record old { stopped = true; found = next.found }) × Finds start old next) ⊎ ((ticket : Ticket) × Submits start old command ticket next)
        → (next.counted ≡ old.counted) ⊎ ((refusal ≡ StoreFailed) × (next.counted ≡ old.counted + 1))
    by_submits (inl same) = inl (ap (λ (d : Desk). d.counted) same.0)
    by_submits (inr (ticket, submits)) = by_reply (counted_either old.counted ticket.reply)
      where
        by_reply : (counted old.counted ticket.reply ≡ old.counted) ⊎ (counted old.counted ticket.reply ≡ old.counted + 1)
            → (next.counted ≡ old.counted) ⊎ ((refusal ≡ StoreFailed) × (next.counted ≡ old.counted + 1))
        by_reply (inl same) = inl (submits.counts ∙ same)
        by_reply (inr more) = inr (failed, submits.counts ∙ more)

-- a seat counts exactly what its desk answered
pub counts_all : (start : State) (old last : Desk) (asked : List Exchange) → Asks (PassesAtHub start) old asked last → Counts old.counted asked last.counted
counts_all start old last [] asks = ap (λ (d : Desk). d.counted) asks
counts_all start old last (Answered command (Ok (Taken revision)) ∷ others) (next, passes, rest) =
    subst (λ (n : ℕ). Counts n others last.counted) (passes.submits.counts ∙ counted_taken old.counted revision passes.ticket.reply passes.answer)
    (counts_all start next last others rest)
counts_all start old last (Answered command (Ok (Again revision)) ∷ others) (next, passes, rest) =
    subst (λ (n : ℕ). Counts n others last.counted) (passes.submits.counts ∙ counted_again old.counted revision passes.ticket.reply passes.answer)
    (counts_all start next last others rest)
counts_all start old last (Answered command (Err refusal) ∷ others) (next, passes, rest) =
    by_case (counts_all start next last others rest) (refused_counts start old next command refusal passes)
  where
    by_case : Counts next.counted others last.counted → (next.counted ≡ old.counted) ⊎ ((refusal ≡ StoreFailed) × (next.counted ≡ old.counted + 1))
        → Counts old.counted others last.counted ⊎ ((refusal ≡ StoreFailed) × Counts (old.counted + 1) others last.counted)
    by_case counts (inl same) = inl (subst (λ (n : ℕ). Counts n others last.counted) same counts)
    by_case counts (inr (failed, more)) = inr (failed, subst (λ (n : ℕ). Counts n others last.counted) more counts)
counts_all start old last (Shown (Some state) ∷ others) (next, passes, rest) =
    subst (λ (n : ℕ). Counts n others last.counted) passes.3 (counts_all start next last others rest)
counts_all start old last (Shown None ∷ others) (next, passes, rest) =
    subst (λ (n : ℕ). Counts n others last.counted) passes.2 (counts_all start next last others rest)
