use Rattle.std.proofs.Common.{refl, ap, arith, ◌∙◌}
use Rattle.attributes.specs.Attributes.{changed}
use Rattle.document.proofs.Passing.{kept_none, kept_more}
use Rattle.document.proofs.walk.keep_part.Goals as goal

pub returns-clause-kept : goal.returns-clause-kept
returns-clause-kept c =
    kept_more _ _ c.next.new.self _ _ _ c.in-Ok.piece c.in_ok-attrs.attrs c.args.change.now 0 c.units.result
    (kept_none _ _ c.args.change.now 0 refl) c.in-Ok.ensures.parts c.in-Ok.ensures.piece.1 (omega (arith, c.units.ensures.units))
    (c.in_ok-attrs.ensures.value ∙ ap (λ a. changed a c.args.change.now) c.attrs.ensures) c.in_ok-put.ensures.units
