-- What a command is answered by its submission.
use Rattle.std.proofs.Common.{◌≡◌, ◌∙◌, ℕ, List, Result, Err, refl, ap, ap₂, sym, subst, inl, inr}
use mathlib.Core.List.{IsPrefix}
use Rattle.refusal.specs.declared.Refusal.{Refusal}
use Rattle.revision.specs.Command.{Command, Taken}
use Rattle.revision.specs.State.{State}
use Rattle.recovery.specs.Found.{commands_of}
use Rattle.published.proofs.CallerLemmas.{prefix_trans}
use Rattle.world.specs.Progress.{Ticket}
use Rattle.world.specs.World.{Entry, takens}
use Rattle.hub.specs.Found.{IsSubmittedAfter}
use Rattle.hub.specs.Given.{refusal_of}
use Rattle.hub.specs.Placed.{StandsFirst}
use Rattle.hub.specs.declared.submit_error.SubmitError.{SubmitError}
use Rattle.hub.specs.declared.submit_error.SubmitError.TheVariants.{Stopped, ByBoard}
use Rattle.session.specs.declared.reply.Reply.{Reply}
use Rattle.session.specs.Exchange.{Answered}
use Rattle.hub.specs.Submitted.{counted_by}
use Rattle.hub_desk.specs.AtHub.{Desk, PassesAtHub}
use Rattle.hub_desk.specs.Tickets.{AnswersFor, noted, with_seat}
use Rattle.hub_desk.proofs.Batches.{commands_begin}

-- what stands in what is published stands in what longer batches have
pub stands_more : (start : State) (ticket : Ticket) (old new : List (List Taken)) → IsPrefix old new → StandsFirst start ticket (commands_of old)
    → StandsFirst start ticket (commands_of new)
stands_more start ticket old new begins stands = record {
  order = stands.order;
  legal = stands.legal;
  placed = stands.placed;
  first = prefix_trans (takens stands.order) (commands_of old) (commands_of new) stands.first (commands_begin old new begins);
}

module _ {L : Type 0} (start : State) (old new : Desk) (command : Command) where
  by_why : (why : SubmitError L) (count : ℕ) (before after : List Entry) → IsSubmittedAfter {L = L} start old.shown before command (Err why) after
      → PassesAtHub start (with_seat old count before) (Answered command (Err (refusal_of why))) (with_seat (noted old why) count after)
  by_why (Stopped token) count before after was =
      inr (inr (refl, record { token = refl; submits = inl (refl, record { legal = was.legal; found = was.found; shows = was.begins }) }))
  by_why (ByBoard refusal) count before after was =
      inr (inl (record { refused = was.given; finds = record { legal = was.legal; found = was.found; shows = was.begins }; others = refl }))

  -- It wasn't submitted.
  pub answered_refused : (submitted : Result Ticket (SubmitError L)) (why : SubmitError L) (refusal : Refusal) → submitted ≡ Err why → refusal ≡ refusal_of why
      → new ≡ noted old why → AnswersFor start old command submitted (Err refusal) new
  answered_refused submitted why refusal is told leaves count before after was =
      let this : IsSubmittedAfter {L = L} start old.shown before command (Err why) after = subst (λ (s : Result Ticket (SubmitError L)). IsSubmittedAfter start old.shown before command s after) is was in
      subst (λ (s : Result Ticket (SubmitError L)). PassesAtHub start (with_seat old count before) (Answered command (Err refusal)) (with_seat new (counted_by count s) after)) (sym is)
      (subst (λ (r : Refusal). PassesAtHub start (with_seat old count before) (Answered command (Err r)) (with_seat new count after)) (sym told)
      (subst (λ (d : Desk). PassesAtHub start (with_seat old count before) (Answered command (Err (refusal_of why))) (with_seat d count after)) (sym leaves)
      (by_why why count before after this)))

module _ {L : Type 0} where
  -- A command that was submitted, and then answered by that.
  pub asked_one : (start : State) (old mid new : Desk) (command : Command) (submitted : Result Ticket (SubmitError L)) (result : Result Reply Refusal)
      → IsSubmittedAfter start old.shown old.found command submitted mid.found → mid ≡ with_seat old (counted_by old.counted submitted) mid.found
      → new ≡ record mid { told = new.told; stopped = new.stopped } → AnswersFor start mid command submitted result new
      → PassesAtHub start old (Answered command result) new
  asked_one start old mid new command submitted result was counts others answers =
      let e1 : with_seat mid old.counted old.found ≡ old = ap (λ (d : Desk). with_seat d old.counted old.found) counts in
      let n : new.counted ≡ counted_by old.counted submitted = ap (λ (d : Desk). d.counted) others ∙ ap (λ (d : Desk). d.counted) counts in
      let f : new.found ≡ mid.found = ap (λ (d : Desk). d.found) others in
      let e2 : with_seat new (counted_by old.counted submitted) mid.found ≡ new = ap₂ (with_seat new) (sym n) (sym f) in
      let this : IsSubmittedAfter start mid.shown old.found command submitted mid.found =
      subst (λ (s : List (List Taken)). IsSubmittedAfter start s old.found command submitted mid.found) (sym (ap (λ (d : Desk). d.shown) counts)) was in
      subst (λ (d : Desk). PassesAtHub start d (Answered command result) new) e1
      (subst (λ (d : Desk). PassesAtHub start (with_seat mid old.counted old.found) (Answered command result) d) e2 (answers old.counted old.found mid.found this))
