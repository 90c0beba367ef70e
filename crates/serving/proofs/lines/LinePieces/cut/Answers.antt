use Rattle.std.proofs.Common.{◌-◌, ℕ, List, drop, subst, arith}
use Rattle.serving.specs.Serving.{IsOfLine}
use Rattle.serving.proofs.Cutting.{front_of_left, left_parted, short_take}
use Rattle.serving.proofs.lines.LinePieces.cut.Goals as goal

pub returns-clause-whole : goal.returns-clause-whole
returns-clause-whole c =
    let s = c.args.self.now in
    let short = short_take (s.count - s.end) (drop s.end s.bytes) in
    left_parted s.bytes s.end c.first_piece-count.result.0 s.count (omega (arith, c.first_piece-count.ensures.within, short))

pub returns-clause-of_line : goal.returns-clause-of_line
returns-clause-of_line c =
    let s = c.args.self.now in
    let short = short_take (s.count - s.end) (drop s.end s.bytes) in
    subst (λ (l : List ℕ). IsOfLine (record { bytes = l; is_cut = c.first_piece-count.result.1 }))
    (front_of_left s.bytes s.end c.first_piece-count.result.0 s.count (omega (arith, c.first_piece-count.ensures.within, short)))
    c.first_piece-count.ensures.of_line
