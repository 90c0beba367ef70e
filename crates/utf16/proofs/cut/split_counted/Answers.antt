use Rattle.std.proofs.Common.{◌≡◌, ◌∙◌, length, ap, sym, refl}
use Rattle.std.specs.Str.{IsCharBoundary}
use Rattle.utf16.specs.Units.{units_of}
use Rattle.utf16.proofs.Places.{AreHalves, halves_at, counted_before}
use Rattle.utf16.proofs.cut.split_counted.Goals as goal
use Rattle.utf16.proofs.cut.split_counted.Goals.{After-split_at}

there : (c : After-split_at) → AreHalves c.args.text.now c.args.at c.args.at
there c =
    let text = c.args.text.now in
    let at = c.args.at in
    let same : length (units_of text) ≡ length text = sym c.requires ∙ sym c.if-text-units.true in
    let boundary : IsCharBoundary text at = c.if-is_char_boundary.ensures.test.0 refl in
    halves_at text at at c.utf8.text boundary (counted_before text at c.utf8.text boundary same)

pub returns-then-is_char_boundary-clause-front : goal.returns-then-is_char_boundary-clause-front
returns-then-is_char_boundary-clause-front c = ap units_of c.split_at.ensures.front ∙ (there (goal.at.returns-then-is_char_boundary-clause-front c).After-split_at).front

pub returns-then-is_char_boundary-clause-back : goal.returns-then-is_char_boundary-clause-back
returns-then-is_char_boundary-clause-back c = ap units_of c.split_at.ensures.back ∙ (there (goal.at.returns-then-is_char_boundary-clause-back c).After-split_at).back

pub returns-then-is_char_boundary-clause-in_pair : goal.returns-then-is_char_boundary-clause-in_pair
returns-then-is_char_boundary-clause-in_pair c = (λ e. absurd (cc), λ pair. absurd ((there (goal.at.returns-then-is_char_boundary-clause-in_pair c).After-split_at).whole pair))
