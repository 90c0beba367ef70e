use Rattle.std.proofs.Common.{◌∙◌, ap, sym, arith}
use Rattle.utf16.specs.Units.{units_of}
use Rattle.utf16.proofs.Places.{AreHalves, halves_at}
use Rattle.utf16.proofs.cut.split_at16.Goals as goal
use Rattle.utf16.proofs.cut.split_at16.Goals.{After-split_at}

there : (c : After-split_at) → AreHalves c.args.text.now c.place_at-bytes.result.0 c.args.at
there c = halves_at c.args.text.now c.place_at-bytes.result.0 c.args.at c.utf8.text c.place_at-bytes.ensures.boundary (sym c.place_at-bytes.ensures.units ∙ c.if-units-at.true)

pub returns-then-units-at-clause-front : goal.returns-then-units-at-clause-front
returns-then-units-at-clause-front c = ap units_of c.split_at.ensures.front ∙ (there (goal.at.returns-then-units-at-clause-front c).After-split_at).front

pub returns-then-units-at-clause-back : goal.returns-then-units-at-clause-back
returns-then-units-at-clause-back c = ap units_of c.split_at.ensures.back ∙ (there (goal.at.returns-then-units-at-clause-back c).After-split_at).back

pub returns-then-units-at-clause-past_end : goal.returns-then-units-at-clause-past_end
returns-then-units-at-clause-past_end c =
    let at = (goal.at.returns-then-units-at-clause-past_end c).After-split_at in
    (λ e. absurd (cc), λ past. absurd (omega (arith, (there at).inside)))

pub returns-then-units-at-clause-in_pair : goal.returns-then-units-at-clause-in_pair
returns-then-units-at-clause-in_pair c =
    let at = (goal.at.returns-then-units-at-clause-in_pair c).After-split_at in
    (λ e. absurd (cc), λ pair. absurd ((there at).whole pair))
