use Rattle.std.proofs.Common.{◌≡◌, ◌-◌, length, sym, subst, ◌∙◌, arith}
use Rattle.document.specs.Pieces.{piece_units}
use Rattle.compose.specs.steps.SteppingBack.{for_units, TakesBack}
use Rattle.compose.proofs.StepsBack.{one_back, base_for, out_parts}
use Rattle.compose.proofs.undoing.bring_next_back.Goals as goal

pub put-requires : goal.put-requires
put-requires c =
    let op = c.args.op.now in
    let units = piece_units c.in-Ok.piece in
    let takes = c.in_ok-back.ensures.back in
    let most = c.in-Ok.ensures.most in
    record {
      base = omega (arith, takes.base, out_parts op (length units) (c.args.most - length units) c.args.most c.requires.stands (omega (arith, most)), c.requires.base);
      out = omega (arith, takes.out, base_for op (length units) c.requires.stands, most, c.requires.out);
    }

pub returns-clause-back : goal.returns-clause-back
returns-clause-back c =
    let op = c.args.op.now in
    let units = piece_units c.in-Ok.piece in
    let len : c.units.result ≡ length units = c.units.ensures.units in
    let takes : TakesBack (for_units c.units.result op) units c.in_ok-back.back = subst (λ n. TakesBack (for_units n op) units c.in_ok-back.back) (sym len) c.in_ok-back.ensures.back in
    one_back _ _ units (for_units c.units.result op) c.in_ok-back.back _ _ (sym c.in-Ok.ensures.parts) (sym len ∙ sym (base_for op c.units.result c.requires.stands)) takes
    c.in_ok-put.ensures.added c.in_ok-put.ensures.base c.in_ok-put.ensures.out
