use Rattle.std.proofs.Common.{◌≡◌, ◌-◌, length, ap, arith}
use Rattle.attributes.specs.Map.{entries_of}
use Rattle.revision.proofs.Counted.{weighed-kept, keeps-most, fits-weight}
use Rattle.revision.proofs.past.sources.Sources.weight.Goals as goal

pub overflow_add-weight : goal.overflow_add-weight
overflow_add-weight c =
    let fits = fits-weight (64 - c.from-each.result) c.from-each.result c.len.result c.self.inside.numbers (omega arith) (omega (arith, c.retry.ensures.bound, c.from-each.ensures))
    c.len.type_inv (omega (arith, keeps-most _ _ c.self.invariant, c.len.ensures)) in
    omega (arith, fits)

pub overflow_mul-weight-2 : goal.overflow_mul-weight-2
overflow_mul-weight-2 c =
    let fits = fits-weight (64 - c.from-each.result) c.from-each.result c.len.result c.self.inside.numbers (omega arith) (omega (arith, c.retry.ensures.bound, c.from-each.ensures))
    c.len.type_inv (omega (arith, keeps-most _ _ c.self.invariant, c.len.ensures)) in
    omega (arith, fits)

pub returns : goal.returns
returns c =
    let count : c.len.result ≡ length c.self.inside.list.items = omega (arith, c.len.ensures) in
    let weight = weighed-kept c.args.limits c.self.inside.numbers c.len.result c.from-each.result c.self.inside.list.items c.args.self.now.entries c.self.invariant
    (ap entries_of c.self.view_is) count (omega (arith, c.retry.ensures.retry, c.from-each.ensures)) in
    omega (arith, weight, c.min.ensures, c.from.ensures)
