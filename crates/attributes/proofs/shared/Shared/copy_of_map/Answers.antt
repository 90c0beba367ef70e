use Rattle.std.proofs.Common.{◌∙◌}
use Rattle.attributes.proofs.Places.{read_at}
use Rattle.attributes.proofs.Prefixes.{prefix-over, insert-prefix, insert-same}
use Rattle.attributes.proofs.shared.Shared.copy_of_map.Goals as goal

pub loop-key-preserved : goal.loop-key-preserved
loop-key-preserved g c =
    let read = read_at _ c.args.self.now.entries c.loop-key.key-index c.loop-key-item.result c.entries-key-items.ensures c.loop-key-test.true c.loop-key-item.is in
    c.in_ok-set.ensures.ok
    ∙ (insert-same c.loop-key.invariant c.in_ok-copy.ensures.same c.in_ok-copied.ensures.same
    ∙ insert-prefix c.args.self.now c.loop-key.key-index c.loop-key-item.result read.0 read.1)

pub returns : goal.returns
returns g c = record {
  same =
      c.loop-key.invariant ∙ prefix-over c.args.self.now _ c.loop-key.key-index c.entries-key-items.ensures c.loop-key.auto.key-index-end c.loop-key-test.false;
}
