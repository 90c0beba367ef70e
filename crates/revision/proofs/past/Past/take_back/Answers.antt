use Rattle.std.proofs.Common.{◌≡◌, ◌<◌, ◌≤◌, ◌-◌, List, length, take, sym, ap, ap₂, subst, ◌∙◌, arith}
use Rattle.delta.specs.Operation.{Operation}
use Rattle.revision.specs.declared.rule.taker.Taker.{Taker}
use Rattle.revision.specs.Past.{Parts, Prepared, AreParts, seen, without_last}
use Rattle.revision.specs.steps.PastView.{parts_of}
use Rattle.revision.proofs.Parts.{cut_are, last_dropped, none_dropped}
use Rattle.revision.proofs.past.Past.take_back.Goals as goal

pub invariant_of-self : goal.invariant_of-self
invariant_of-self c =
    let parts : Parts = parts_of c.self.inside in
    let some : parts.count < length parts.deltas = omega (arith, c.if-self-len.true, c.len.ensures) in
    let left : length parts.deltas - 1 ≡ c.len-left.result - 1 = omega (arith, c.len-left.ensures) in
    subst AreParts
    (ap₂ (λ (t : List Taker) (d : List (List Operation)). record parts { takers = t; deltas = d })
    (ap (λ n. take n parts.takers) left ∙ sym c.truncate.ensures.items) (ap (λ n. take n parts.deltas) left ∙ sym c.truncate-then-self-len.ensures.items))
    (cut_are parts c.self.invariant (length parts.deltas - 1) (omega (arith, some)) (omega arith))

pub returns-then-self-len : goal.returns-then-self-len
returns-then-self-len c =
    let parts : Parts = parts_of c.self.inside in
    let some : parts.count < length parts.deltas = omega (arith, c.if-self-len.true, c.len.ensures) in
    let left : length parts.deltas - 1 ≡ c.len-left.result - 1 = omega (arith, c.len-left.ensures) in
    ap₂ (λ (t : List Taker) (d : List (List Operation)). seen (record parts { takers = t; deltas = d }))
    (c.truncate.ensures.items ∙ ap (λ n. take n parts.takers) (sym left)) (c.truncate-then-self-len.ensures.items ∙ ap (λ n. take n parts.deltas) (sym left))
    ∙ (last_dropped parts c.self.invariant some ∙ ap (λ (p : Prepared). record p { next = without_last p.next }) c.self.view_is)

pub returns-else-self-len : goal.returns-else-self-len
returns-else-self-len c =
    let parts : Parts = parts_of c.self.inside in
    let none : length parts.deltas ≤ parts.count = omega (arith, c.if-self-len.false, c.len.ensures) in
    sym c.self.view_is ∙ (none_dropped parts c.self.invariant none ∙ ap (λ (p : Prepared). record p { next = without_last p.next }) c.self.view_is)
