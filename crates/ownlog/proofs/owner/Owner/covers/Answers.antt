use Rattle.std.proofs.Common.{◌≡◌, false, List, ap, sym, subst, ◌∙◌}
use mathlib.Core.List.{IsPrefix}
use Rattle.logbook.specs.Pages.{cell}
use Rattle.ownlog.specs.declared.link.Link.{Link}
use Rattle.ownlog.specs.Rules.{last_key}
use Rattle.ownlog.proofs.Cells.{all_of, prefix_items}
use Rattle.ownlog.proofs.Steps.{stays_moves}
use Rattle.ownlog.proofs.owner.Owner.covers.Goals as goal

pub compare_exchange-requires : goal.compare_exchange-requires
compare_exchange-requires g c =
    let h = c.self.invariant.0 in
    let offer = c.plain-offer.ensures in
    let book = c.learn.ensures.0 ∙ (ap (λ s. s.book) c.again-both.ensures ∙ sym (ap (λ w. w.book) h)) in (
      ap (λ w. w.tracked) h,
      book,
      c.self.invariant.1 ∙ sym (ap (λ w. w.book) h),
      offer.0,
      rw (ap (λ w. w.key) h, c.self.invariant.2, offer.3) (stays_moves c.learn.new.self.log c.plain-offer.result.ask (last_key 2 c.self.inside.seen.log)),
    )

pub returns-clause-begins : goal.returns-clause-begins
returns-clause-begins g c =
    let step = c.compare_exchange.ensures.7 in
    let both = c.learn.new.self.log in
    let mine = c.self.inside.seen.log in
    let this : IsPrefix mine both = subst (λ (l : List (Link g.row.T.Denot)). IsPrefix l both) (ap (λ s. s.log) c.again-both.ensures) c.learn.ensures.2 in
    let away : (cell step.0 (last_key 2 mine)).1 ≡ false = subst (λ k. (cell step.0 k).1 ≡ false) (ap (λ p. p.key) c.self.invariant.2) step.2 in
    rw (← c.self.view_is, ← c.front.view_is)
    (prefix_items c.front.inside.seen.log mine (all_of step.0 2 mine c.front.inside.seen.log both step.1 away this c.learn.ensures.3))
