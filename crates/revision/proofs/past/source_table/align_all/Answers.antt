use Rattle.std.proofs.Common.{◌≡◌, ◌+◌, ◌∷◌, drop, sym, ap, subst, ◌∙◌, arith}
use Rattle.std.proofs.lemmas.List.{at_drop_more, drop_all}
use Rattle.revision.specs.Sources.{EqualBut}
use Rattle.revision.proofs.Noted.{but-rest, but-none, but-more}
use Rattle.revision.proofs.past.source_table.align_all.Goals as goal

pub returns-in_err-align-clause-still : goal.returns-in_err-align-clause-still
returns-in_err-align-clause-still c =
    but-more c.loop-one.one-index c.args.changed.now c.args.accepted.now c.align.new.ahead
    (subst (EqualBut (drop c.loop-one.one-index c.args.changed.now) c.args.accepted.now) (sym c.in_err-align.ensures.unchanged) c.loop-one.invariant)

pub loop-one-preserved : goal.loop-one-preserved
loop-one-preserved c =
    let changed = c.args.changed.now in
    let i = c.loop-one.one-index in
    let name = c.one-item.result in
    let here : drop i changed ≡ name ∷ drop (i + 1) changed =
    at_drop_more (λ l. l) changed i name c.loop-one-test.true ∙ ap (λ n. n ∷ drop (i + 1) changed) (sym c.one-item.is) in
    subst (EqualBut (drop (i + 1) changed) c.args.accepted.now) (sym c.in_ok-align.ensures.ok)
    (but-rest name (drop (i + 1) changed) c.args.accepted.now c.loop-one.ahead (subst (λ l. EqualBut l c.args.accepted.now c.loop-one.ahead) here c.loop-one.invariant))

pub returns-clause-ok : goal.returns-clause-ok
returns-clause-ok c =
    let none = drop_all c.loop-one.one-index c.args.changed.now (omega (arith, c.loop-one-test.false)) in
    but-none c.args.accepted.now c.loop-one.ahead (subst (λ l. EqualBut l c.args.accepted.now c.loop-one.ahead) none c.loop-one.invariant)
