use Rattle.std.proofs.Common.{◌≤◌, ◌-◌, length, arith, sym, ap, ◌∙◌, subst}
use Rattle.utf16.specs.Units.{units_of, IsInPair}
use Rattle.document.specs.Pairs.{IsWithinPair}
use Rattle.document.specs.Pieces.{piece_units}
use Rattle.document.proofs.Cutting.{parted_by, not_refused, on_err, text_of_piece, letters-parts, length-front, length-back, both_formed}
use Rattle.document.proofs.cursor.cut.Goals as goal

pub returns-in_err-front-in-Text-clause-parted : goal.returns-in_err-front-in-Text-clause-parted
returns-in_err-front-in-Text-clause-parted c =
    let piece = text_of_piece _ c.in-Text.is c.requires.piece in
    let within : c.args.most ≤ length (units_of c.in-Text.text.now) = omega (arith, piece.0, c.if-units-most.false) in
    on_err c.from_residual.result _ (subst (λ p. IsWithinPair (piece_units p) c.args.most) (sym c.in-Text.is)
    (parted_by _ _ (units_of c.in-Text.text.now) c.args.most c.in-Text.attrs.now within c.in_err-front-in-Text.ensures.past_end c.in_err-front-in-Text.ensures.in_pair))

pub returns-in_ok-front-in-Text-clause-parts : goal.returns-in_ok-front-in-Text-clause-parts
returns-in_ok-front-in-Text-clause-parts c =
    letters-parts (units_of c.in-Text.text.now) _ _ c.args.most c.in-Text.attrs.now c.in_ok-front-in-Text.ensures.front c.in_ok-front-in-Text.ensures.back
    ∙ ap piece_units (sym c.in-Text.is)

pub returns-in_ok-front-in-Text-clause-front : goal.returns-in_ok-front-in-Text-clause-front
returns-in_ok-front-in-Text-clause-front c =
    let piece = text_of_piece _ c.in-Text.is c.requires.piece in
    let us = units_of c.in-Text.text.now in
    let within : c.args.most ≤ length us = omega (arith, piece.0, c.if-units-most.false) in
    let whole : ¬ (IsInPair us c.args.most) = λ parted. not_refused _ _ _ (c.in_ok-front-in-Text.ensures.in_pair.1 parted) in
    let both = both_formed us _ _ c.args.most c.in-Text.attrs.now within c.in_ok-front-in-Text.ensures.front c.in_ok-front-in-Text.ensures.back piece.2 whole in
    ((length-front us _ c.args.most within c.in_ok-front-in-Text.ensures.front, c.requires.some), both.0)

pub returns-in_ok-front-in-Text-clause-back : goal.returns-in_ok-front-in-Text-clause-back
returns-in_ok-front-in-Text-clause-back c =
    let piece = text_of_piece _ c.in-Text.is c.requires.piece in
    let us = units_of c.in-Text.text.now in
    let within : c.args.most ≤ length us = omega (arith, piece.0, c.if-units-most.false) in
    let whole : ¬ (IsInPair us c.args.most) = λ parted. not_refused _ _ _ (c.in_ok-front-in-Text.ensures.in_pair.1 parted) in
    let both = both_formed us _ _ c.args.most c.in-Text.attrs.now within c.in_ok-front-in-Text.ensures.front c.in_ok-front-in-Text.ensures.back piece.2 whole in
    ((ap (λ n. n - c.args.most) piece.0 ∙ length-back us _ c.args.most within c.in_ok-front-in-Text.ensures.back, omega (arith, c.if-units-most.false)), both.1)

pub split_counted-requires : goal.split_counted-requires
split_counted-requires c = (text_of_piece _ c.in-Text.is c.requires.piece).0
