use Rattle.std.proofs.Common.{◌≡◌, [], true, refl, ap, rules, arith}
use Rattle.std.proofs.lemmas.List.{nil_from_length}
use Rattle.session.specs.News.{lines_of}
use Rattle.session.proofs.Pages.{front-none, front-more, front-end, front-last, spells-failed}
use Rattle.session.proofs.due.print_news.Goals as goal

pub loop-delta-init : goal.loop-delta-init
loop-delta-init g c = record {
  revision = refl;
  spelled = front-none c.args.out.now c.args.page.now (lines_of c.args.name.now c.args.last c.args.deltas.now);
}

pub loop-delta-preserved : goal.loop-delta-preserved
loop-delta-preserved g c =
    let so_far = c.loop-delta.invariant in
    let less = c.in-Some.ensures.cases.1 in
    record {
      revision = omega (arith, so_far.revision, less);
      spelled = front-more (ap (λ l. lines_of c.args.name.now c.loop-delta.revision l) c.in-Some.ensures.cases.0) so_far.spelled c.print_change.ensures;
    }

pub returns-then-has_failed : goal.returns-then-has_failed
returns-then-has_failed g c =
    let failed : c.loop-delta.page.failed ≡ true = search rules in
    front-last c.loop-delta.invariant.spelled (spells-failed c.loop-delta.out c.loop-delta.page _ failed)

pub returns : goal.returns
returns g c =
    let none : c.loop-delta.rest.now ≡ [] = nil_from_length c.loop-delta.rest.now (search rules) in
    front-end (ap (λ l. lines_of c.args.name.now c.loop-delta.revision l) none) c.loop-delta.invariant.spelled
