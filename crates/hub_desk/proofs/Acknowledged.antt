-- What a desk acknowledged stands in what the batches make that it was told of, and further ones.
use Rattle.std.proofs.Common.{◌≡◌, ◌⊎◌, true, List, [], ◌∷◌, Some, None, Ok, Err, refl, sym, ap, subst, inl, inr}
use mathlib.Core.List.{IsPrefix}
use Rattle.revision.specs.Command.{Command, Taken}
use Rattle.revision.specs.State.{State, all_grow, fold}
use Rattle.recovery.specs.Found.{commands_of}
use Rattle.published.proofs.CallerLemmas.{prefix_self, prefix_trans}
use Rattle.world.specs.Progress.{Progress, Ticket}
use Rattle.world.specs.World.{Entry, takens}
use Rattle.hub.specs.Legal.{IsOfRun}
use Rattle.hub.specs.Placed.{StandsFirst}
use Rattle.session.specs.declared.reply.Reply.{Reply}
use Rattle.session.specs.Alone.{answered}
use Rattle.session.specs.Exchange.{Exchange, Answered, Shown}
use Rattle.session.specs.Reply.{rev_of}
use Rattle.hub_desk.specs.AtHub.{Desk, Finds, Submits, PassesAtHub}
use Rattle.hub_desk.specs.Laws.{ToldKept, FoundKept, RefusedByBoard, AcknowledgedStand}
use Rattle.hub_desk.specs.Standing.{StandsIn}
use Rattle.hub_desk.proofs.Answering.{stands_more}
use Rattle.hub_desk.proofs.Placing.{placed_stands}

stopped_keeps : (start : State) (old : Desk) (command : Command) (new : Desk)
    → ((new ≡ record old { stopped = true; found = new.found }) × Finds start old new) ⊎ ((ticket : Ticket) × Submits start old command ticket new)
    → IsPrefix old.told new.told × IsPrefix old.found new.found
stopped_keeps start old command new (inl same) =
    (subst (λ (l : List (List Taken)). IsPrefix old.told l) (sym (ap (λ (d : Desk). d.told) same.0)) (prefix_self old.told), same.1.found)
stopped_keeps start old command new (inr submitted) = (submitted.1.told, submitted.1.finds.found)

-- no exchange makes a desk forget what it was told of
told_kept : (start : State) (old : Desk) (exchange : Exchange) (new : Desk) → PassesAtHub start old exchange new → IsPrefix old.told new.told
told_kept start old (Answered command (Ok reply)) new acknowledged = acknowledged.submits.told
told_kept start old (Answered command (Err refusal)) new (inl refused) = subst (λ (d : Desk). IsPrefix old.told d.told) (sym refused.0) (prefix_self old.told)
told_kept start old (Answered command (Err refusal)) new (inr (inl refused)) =
    subst (λ (l : List (List Taken)). IsPrefix old.told l) (sym (ap (λ (d : Desk). d.told) refused.others)) (prefix_self old.told)
told_kept start old (Answered command (Err refusal)) new (inr (inr stops)) = (stopped_keeps start old command new stops.1.submits).0
told_kept start old (Shown (Some state)) new shown = shown.1
told_kept start old (Shown None) new none = none.0

-- nor do all of them
pub told_through : ToldKept
told_through start [] old new same = subst (λ (d : Desk). IsPrefix old.told d.told) (sym same) (prefix_self old.told)
told_through start (exchange ∷ others) old new (next, does, more) =
    prefix_trans old.told next.told new.told (told_kept start old exchange next does) (told_through start others next new more)

-- no exchange makes less of what was found
found_kept : (start : State) (old : Desk) (exchange : Exchange) (new : Desk) → PassesAtHub start old exchange new → IsPrefix old.found new.found
found_kept start old (Answered command (Ok reply)) new acknowledged = acknowledged.submits.finds.found
found_kept start old (Answered command (Err refusal)) new (inl refused) = subst (λ (d : Desk). IsPrefix old.found d.found) (sym refused.0) (prefix_self old.found)
found_kept start old (Answered command (Err refusal)) new (inr (inl refused)) = refused.finds.found
found_kept start old (Answered command (Err refusal)) new (inr (inr stops)) = (stopped_keeps start old command new stops.1.submits).1
found_kept start old (Shown (Some state)) new shown = subst (λ (l : List Entry). IsPrefix old.found l) (sym shown.4) (prefix_self old.found)
found_kept start old (Shown None) new none = subst (λ (l : List Entry). IsPrefix old.found l) (sym none.3) (prefix_self old.found)

-- nor do all of them
pub found_through : FoundKept
found_through start [] old new same = subst (λ (d : Desk). IsPrefix old.found d.found) (sym same) (prefix_self old.found)
found_through start (exchange ∷ others) old new (next, does, more) =
    prefix_trans old.found next.found new.found (found_kept start old exchange next does) (found_through start others next new more)

-- the board that refused is of just this order
pub refused_by_board : RefusedByBoard
refused_by_board start old new command refusal refused =
    let board : Progress Entry = record { start = start; order = new.found; state = fold start (takens new.found); taken = 0; settled = 0 } in
    let run : IsOfRun start board = record { begun = refl; history = record { legal = refused.finds.legal; state = refl } } in
    (board, run, refused.refused)

-- what stands first in what batches have stands in what these and further ones make
stands_behind : (start : State) (old new : List (List Taken)) (command : Command) (reply : Reply) (ticket : Ticket) → IsPrefix old new
    → all_grow start (commands_of new) ≡ true → ticket.command ≡ command → StandsFirst start ticket (commands_of old) → answered ticket.reply ≡ Ok reply
    → StandsIn (fold start (commands_of new)) command (rev_of reply)
stands_behind start old new command reply ticket begins grow same stands answer =
    subst (λ (c : Command). StandsIn (fold start (commands_of new)) c (rev_of reply)) same
    (placed_stands start ticket (commands_of new) reply grow (stands_more start ticket old new begins stands) answer)

pub all_stand : AcknowledgedStand
all_stand start old new [] batches asks told grow = tt
all_stand start old new (Answered command (Ok reply) ∷ others) batches (next, does, more) told grow = (
  stands_behind start next.told batches command reply does.ticket (prefix_trans next.told new.told batches (told_through start others next new more) told) grow
      does.submits.of_command does.stands does.answer,
  all_stand start next new others batches more told grow,
)
all_stand start old new (Answered command (Err refusal) ∷ others) batches (next, does, more) told grow = all_stand start next new others batches more told grow
all_stand start old new (Shown shown ∷ others) batches (next, does, more) told grow = all_stand start next new others batches more told grow
