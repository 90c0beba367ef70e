use Rattle.std.proofs.Common.{arith, ◌-◌, ◌+◌, ◌∙◌, sym, ap}
use Rattle.delta.specs.Operation.{base_of, out_of}
use Rattle.xform.proofs.Leading.{moves-behind, moved-past}
use Rattle.xform.proofs.moving.Moving.moves_behind.Goals as goal

pub returns : goal.returns
returns c =
    let was = c.self.inside in
    let kept = c.in-Some.kept in
    let lengths = c.lengths-gone.ensures in
    let gone = c.lengths-gone.result.0 in
    let made = c.lengths-gone.result.1 in
    let len = kept - gone + made in
    moved-past c.args.first.now c.args.self.now c.set_lead.new.self len
    (moves-behind c.args.first.now c.args.self.now kept gone made was.base was.out len (sym c.lead.ensures ∙ c.in-Some.is)
    lengths.base lengths.out (c.self.invariant.base_is ∙ ap base_of c.self.view_is) (c.self.invariant.out_is ∙ ap out_of c.self.view_is)
    (omega (arith, c.if-kept-gone.false))
    (omega (arith, c.max.ensures, c.if-max-made-gt-MAX_LEN.false)) (omega (arith, c.max.ensures, c.if-max-made-gt-MAX_LEN.false))
    (omega arith) (omega (arith, c.if-len-eq0.false)))
    c.set_lead.ensures.lead c.set_lead.ensures.normal
