use Rattle.std.proofs.Common.{◌≡◌, ◌-◌, subst}
use Rattle.std.specs.Prelude.{IfOk}
use Rattle.revision.specs.Sources.{Sources}
use Rattle.revision.specs.Past.{changes_by}
use Rattle.revision.proofs.LettingGo.{noted_since}
use Rattle.revision.proofs.past.replaying.sources_after_first.Goals as goal

pub returns : goal.returns
returns c = record {
  sources =
      let takers = c.args.takers.now in
      let deltas = c.args.deltas.now in
      let from = c.noted_up_to-from.result.0 in
      let base_is = c.noted_up_to-from.ensures.there (changes_by takers deltas) c.requires.noted in
      subst (λ (s : Sources). IfOk c.noted_all.result (λ noted. noted ≡ s))
      (noted_since c.args.start from c.args.count c.args.sources.now c.noted_up_to-from.result.1.now takers deltas c.requires.same c.requires.count
      c.noted_up_to-from.ensures.above c.noted_up_to-from.ensures.below base_is)
      c.noted_all.ensures.sources;
}
