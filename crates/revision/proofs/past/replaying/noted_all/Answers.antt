use Rattle.std.proofs.Common.{◌≡◌, ◌+◌, drop, sym, ap, ◌∙◌, arith}
use Rattle.std.proofs.lemmas.List.{drop_all}
use Rattle.revision.specs.Sources.{Sources}
use Rattle.revision.specs.Past.{sources_after, changes_by}
use Rattle.revision.proofs.Parts.{changes-length}
use Rattle.revision.proofs.Replaying.{noted-here}
use Rattle.revision.proofs.past.replaying.noted_all.Goals as goal

pub loop-i-preserved : goal.loop-i-preserved
loop-i-preserved c =
    let takers = c.args.takers.now in
    let deltas = c.args.deltas.now in
    let i = c.loop-i.i in
    let taker = c.index-takers-i.result in
    let later : c.args.start + (i + 1) ≡ c.args.start + i + 1 = omega arith in
    let rest = drop (i + 1) (changes_by takers deltas) in
    ap (λ n. sources_after n c.take.new.self rest) later
    ∙ (ap (λ (s : Sources). sources_after (c.args.start + i + 1) s rest)
    c.in_ok-take.ensures.ok
    ∙ (noted-here c.args.start i c.loop-i.noted takers deltas taker c.requires.same c.loop-i-test.true c.index-takers-i.is ∙ c.loop-i.invariant))

pub returns : goal.returns
returns c = record {
  sources =
      let takers = c.args.takers.now in
      let deltas = c.args.deltas.now in
      let none = drop_all c.loop-i.i (changes_by takers deltas) (omega (arith, changes-length takers deltas c.requires.same, c.requires.same, c.loop-i-test.false)) in
      sym (ap (sources_after (c.args.start + c.loop-i.i) c.loop-i.noted) none) ∙ c.loop-i.invariant;
}
