use Rattle.std.proofs.Common.{ap, sym, ◌∙◌, arith, length}
use Rattle.document.specs.Pieces.{content_units}
use Rattle.document.proofs.Letters.{takes_text}
use Rattle.document.proofs.run.Run.takes.Goals as goal

pub returns-in-Text : goal.returns-in-Text
returns-in-Text c =
    takes_text c.eq.result _ c.self.inside.attrs c.args.attrs.now c.args.self.now c.eq.ensures
    (ap (λ k. content_units k c.self.inside.attrs) (sym c.in-Text.is) ∙ c.self.view_is) (omega (arith, c.self.invariant, ap length c.self.view_is))
