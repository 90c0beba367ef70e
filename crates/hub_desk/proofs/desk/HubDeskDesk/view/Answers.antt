use Rattle.std.proofs.Common.{◌≡◌, List, Some, ap, sym, subst, ◌∙◌}
use mathlib.Core.List.{IsPrefix}
use Rattle.revision.specs.Command.{Taken}
use Rattle.revision.specs.State.{fold}
use Rattle.recovery.specs.Found.{commands_of}
use Rattle.published.proofs.CallerLemmas.{prefix_trans}
use Rattle.session.specs.Shelf.{IsLater}
use Rattle.hub_desk.specs.AtHub.{Desk}
use Rattle.hub_desk.proofs.Batches.{later_batches}
use Rattle.hub_desk.proofs.desk.HubDeskDesk.view.Goals as goal

-- what is shown is what the batches make that are told of then, and those begin with what was told of before
pub returns-clause-shown : goal.returns-clause-shown
returns-clause-shown g c =
    let read = c.in_ok-answer.ensures.lent in
    let answer = read.answer in
    let state = answer.0 in (
      Some state,
      (answer.1, subst (λ (l : List (List Taken)). IsPrefix l c.read.new.self) (ap (λ (d : Desk). d.told) c.self.view_is) read.seen.kept, c.told.ensures, ap (λ (d : Desk). d.counted) c.self.view_is, ap (λ (d : Desk). d.found) c.self.view_is),
      answer.2,
      λ x is. let same : state ≡ x = cc in
          sym same ∙ answer.1 ∙ ap (λ (l : List (List Taken)). fold g.L.Life.start (commands_of l)) (sym c.told.ensures),
    )

-- and so it is later than what was shown before
pub returns-clause-later : goal.returns-clause-later
returns-clause-later g c =
    let read = c.in_ok-answer.ensures.lent in
    let start = g.L.Life.start in
    subst (λ (l : List (List Taken)). IsLater (fold start (commands_of l)) (fold start (commands_of c.told.result))) (ap (λ (d : Desk). d.shown) c.self.view_is)
    (subst (λ (l : List (List Taken)). IsLater (fold start (commands_of c.self.inside.shown)) (fold start (commands_of l))) (sym c.told.ensures)
    (later_batches start c.self.inside.shown c.read.new.self (prefix_trans c.self.inside.shown c.self.inside.viewer c.read.new.self c.self.invariant read.seen.kept) read.seen.grows))
