use Rattle.std.proofs.Common.{◌≡◌, [], ◌∷◌, ◌++◌, ap, ap₂, sym, ◌∙◌}
use Rattle.logbook.specs.Pages.{nib, may_write, inked}
use Rattle.ownlog.specs.Rules.{head_of, items_of, last_key}
use Rattle.ownlog.proofs.Cells.{last_more, items_more, log_of}
use Rattle.ownlog.proofs.Steps.{grows_moves, adds_moves}
use Rattle.ownlog.proofs.owner.Owner.append_as.Goals as goal

pub compare_exchange-requires : goal.compare_exchange-requires
compare_exchange-requires g c =
    let h = c.self.invariant.0 in
    let offer = c.plain-offer.ensures in
    let pen = c.no_pen-pen.ensures in
    let book = ap (λ s. s.book) c.again-seen.ensures ∙ sym (ap (λ w. w.book) h) in (
      ap (λ w. w.tracked) h,
      book,
      pen.0 ∙ book,
      offer.0,
      rw (ap (λ w. w.key) h, pen.1, offer.3) (grows_moves c.again-seen.result.log c.plain-offer.result.ask),
    )

pub compare_exchange-requires-2 : goal.compare_exchange-requires-2
compare_exchange-requires-2 g c =
    let h = c.self.invariant.0 in
    let offer = c.plain-offer-2.ensures in
    let book = sym (ap (λ w. w.book) h) in (
      ap (λ w. w.tracked) h,
      book,
      c.self.invariant.1 ∙ book,
      offer.0,
      rw (ap (λ w. w.key) h, c.self.invariant.2, offer.3) (adds_moves c.self.inside.seen.log c.plain-offer-2.result.ask),
    )

pub invariant_of-self : goal.invariant_of-self
invariant_of-self g c =
    let first = c.compare_exchange.ensures in
    let second = c.compare_exchange-2.ensures in
    let made = c.tracked-word.ensures in
    let offer = c.plain-offer-2.ensures in
    let log : c.compare_exchange-2.new.seen.log ≡ c.self.inside.seen.log ++ c.plain-offer-2.result.ask ∷ [] = second.7 in
    let key : last_key 2 c.compare_exchange-2.new.seen.log ≡ c.tracked-word.new.pen.nib.key =
    ap (last_key 2) log ∙ (last_more 2 c.self.inside.seen.log c.plain-offer-2.result.ask ∙ ap (λ e. e.next) offer.1) in
    let pen : c.tracked-word.new.pen.nib ≡ nib may_write first.7.0 0 = made.2 ∙ ap (λ p. inked p 0) first.7.1 in (
      c.self.invariant.0 ∙ ap head_of (sym second.0),
      made.1 ∙ (first.5 ∙ (c.no_pen-pen.ensures.0 ∙ (ap (λ s. s.book) c.again-seen.ensures ∙ sym second.0))),
      pen ∙ ap (λ k. nib may_write k 0) (sym (key ∙ ap (λ p. p.key) pen)),
    )

pub returns : goal.returns
returns g c =
    let second = c.compare_exchange-2.ensures in
    let offer = c.plain-offer-2.ensures in
    let items : items_of c.compare_exchange-2.new.seen.log ≡ items_of c.self.inside.seen.log ++ g.M.Shows.item c.args.about.now ∷ [] =
    ap items_of second.7 ∙ (items_more c.self.inside.seen.log c.plain-offer-2.result.ask
    ∙ ap (λ l. items_of c.self.inside.seen.log ++ l) (ap (λ e. e.items) offer.1 ∙ ap (λ x. g.M.Shows.item x ∷ []) c.of.ensures)) in
    rw (← c.self.view_is) (ap₂ log_of second.0 items)
