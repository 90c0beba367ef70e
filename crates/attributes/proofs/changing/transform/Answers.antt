use Rattle.std.proofs.Common.{◌∙◌, sym, ap}
use Rattle.attributes.specs.Map.{contains, without}
use Rattle.attributes.specs.Attributes.{transformed}
use Rattle.attributes.proofs.Places.{read_at}
use Rattle.attributes.proofs.Prefixes.{prefix-over, without-none, without-more}
use Rattle.attributes.proofs.Merging.{kept-same}
use Rattle.attributes.proofs.changing.transform.Goals as goal

pub loop-entry-init : goal.loop-entry-init
loop-entry-init c = c.new-after.ensures ∙ without-none c.args.second.now c.args.first.now

pub loop-entry-preserved : goal.loop-entry-preserved
loop-entry-preserved c =
    let entry = c.entry-item.result in
    let read = read_at _ c.args.second.now.entries c.loop-entry.entry-index entry c.entries-entry-items.ensures c.loop-entry-test.true c.entry-item.is in
    c.in_ok-keep.ensures.ok
    ∙ (kept-same (contains c.args.first.now entry.0) entry c.loop-entry.invariant
    ∙ without-more c.args.second.now c.loop-entry.entry-index entry read.0 read.1 c.args.first.now)

pub returns : goal.returns
returns c = record {
  value =
      c.loop-entry.invariant
      ∙ (ap (λ m. without m c.args.first.now) (prefix-over c.args.second.now _ c.loop-entry.entry-index c.entries-entry-items.ensures c.loop-entry.auto.entry-index-end c.loop-entry-test.false)
      ∙ ap (transformed c.args.first.now c.args.second.now) (sym c.if-not-priority.false));
}
