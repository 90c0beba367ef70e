use Rattle.std.proofs.Common.{◌-◌, ◌^◌, ◌∙◌, min, arith, ap, refl}
use Rattle.attributes.specs.Attributes.{changed}
use Rattle.document.specs.Weight.{attributes_weight}
use Rattle.document.proofs.Measured.{kept_none, kept_more}
use Rattle.document.proofs.weights.kept_piece_weight.Goals as goal

pub returns-clause-kept : goal.returns-clause-kept
returns-clause-kept c =
    kept_more _ _ c.next.new.self c.in-Ok.piece c.args.change.now 0 c.units.result 0 c.changed_weight-attributes.result c.weight_with.result c.weight_with.result
    (kept_none _ c.args.change.now 0 refl) c.in-Ok.ensures.parts c.in-Ok.ensures.piece (omega (arith, c.units.ensures.units))
    (c.changed_weight-attributes.ensures ∙ ap (λ a. min (attributes_weight (changed a c.args.change.now)) (2 ^ 64 - 1)) c.attrs.ensures)
    c.weight_with.ensures (omega (arith, c.weight_with.type_inv))
