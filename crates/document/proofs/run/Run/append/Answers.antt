use Rattle.std.proofs.Common.{ap, sym, ◌∙◌, arith, length}
use Rattle.document.specs.Pieces.{content_units}
use Rattle.document.proofs.Letters.{appended}
use Rattle.document.proofs.run.Run.append.Goals as goal

pub returns-clause-ok : goal.returns-clause-ok
returns-clause-ok c =
    appended _ _ _ c.self.inside.attrs c.args.self.now
    (ap (λ k. content_units k c.self.inside.attrs) (sym c.in-Text.is) ∙ c.self.view_is) (omega (arith, c.self.invariant, ap length c.self.view_is)) c.in_ok-append-in-Text.ensures.ok
