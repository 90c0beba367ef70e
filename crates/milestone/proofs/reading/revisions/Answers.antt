use Rattle.std.proofs.Common.{◌≡◌, ◌++◌, ◌∷◌, [], ◌∙◌, length, sym, ap, subst, arith, length-append}
use Rattle.std.proofs.lemmas.Result.{err_from_is_err_and}
use Rattle.revision.specs.Window.{Window}
use Rattle.milestone.proofs.Windows.{AreRead, none_read, none_follows, one_follows, all_follow}
use Rattle.milestone.proofs.reading.revisions.Goals as goal

pub loop-init : goal.loop-init
loop-init c = record {
  number = ap (λ (w : Window). w.number) c.begun-window.ensures;
  counted = ap (λ (w : Window). length w.revisions) c.begun-window.ensures;
  read = subst (λ (w : Window). AreRead c.args.count c.args.high 0 c.args.bytes.now c.args.bytes.now w.revisions) (sym c.begun-window.ensures) (none_read c.args.count c.args.high c.args.bytes.now);
}

pub returns-in_err-revision-clause-none : goal.returns-in_err-revision-clause-none
returns-in_err-revision-clause-none c =
    let why = err_from_is_err_and c.from_residual.result c.from_residual.ensures.1 in
    let at = c.loop in
    rw why.1 (λ is.
    none_follows c.args.count c.args.high at.last c.args.bytes.now at.rest.now at.window.revisions (omega arith) at.invariant.read
    (omega (arith, at.invariant.counted, c.loop-test.true)) (c.in_err-revision.ensures.none (sym why.2 ∙ is)))

pub loop-preserved : goal.loop-preserved
loop-preserved c =
    let at = c.loop in
    let added : c.add.new.self ≡ record { number = at.window.number; revisions = at.window.revisions ++ c.in_ok-revision.revision ∷ [] } = c.add.ensures in
    record {
      number = ap (λ (w : Window). w.number) added ∙ at.invariant.number;
      counted = omega (arith, at.invariant.counted, ap (λ (w : Window). length w.revisions) added, length-append at.window.revisions (c.in_ok-revision.revision ∷ []));
      read = subst (λ (w : Window). AreRead c.args.count c.args.high c.in_ok-revision.revision c.args.bytes.now c.in_ok-revision.after.now w.revisions) (sym added)
          (one_follows c.args.count c.args.high at.last c.args.bytes.now at.rest.now at.window.revisions (omega arith) at.invariant.read c.in_ok-revision.revision c.in_ok-revision.after.now
          (omega (arith, at.invariant.counted, c.loop-test.true)) c.in_ok-revision.ensures.found.0 c.in_ok-revision.ensures.found.1);
    }

pub returns-clause-found : goal.returns-clause-found
returns-clause-found c =
    let at = c.loop in
    all_follow c.args.count c.args.high at.last c.args.bytes.now at.rest.now at.window.revisions (omega arith) at.invariant.read
    (omega (arith, at.invariant.counted, c.loop-test.false, at.auto.counter-end))
