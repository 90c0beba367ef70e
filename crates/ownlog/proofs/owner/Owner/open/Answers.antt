use Rattle.std.proofs.Common.{ap, sym, ◌∙◌}
use Rattle.ownlog.proofs.Steps.{begins_moves}
use Rattle.ownlog.proofs.owner.Owner.open.Goals as goal

pub compare_exchange-found-requires : goal.compare_exchange-found-requires
compare_exchange-found-requires g c =
    let h = c.tracked-head.ensures.0 in
    let opened = c.open-seen.ensures in
    let offer = c.plain-offer.ensures in
    let pen = c.no_pen-pen.ensures in
    let book = sym (ap (λ w. w.book) h ∙ opened.2) in (
      ap (λ w. w.tracked) h,
      book,
      pen.0 ∙ book,
      offer.0,
      rw (ap (λ w. w.key) h, ap (λ p. p.key) opened.4, opened.1, pen.1, offer.3) (begins_moves c.plain-offer.result.ask),
    )
