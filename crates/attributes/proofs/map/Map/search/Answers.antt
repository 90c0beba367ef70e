use Rattle.std.proofs.Common.{◌+◌, ◌-◌, ◌/◌, length, ap, arith}
use Rattle.attributes.specs.Map.{entries_of}
use Rattle.attributes.specs.Table.{none_before}
use Rattle.attributes.proofs.Places.{read_at, compared}
use Rattle.attributes.proofs.Halving.{here_found, before_found, free_between}
use Rattle.attributes.proofs.map.Map.search.Goals as goal

pub loop-low-init : goal.loop-low-init
loop-low-init g c = record { within = c.requires.within; order = omega arith; low = none_before; high = c.requires.before }

pub returns-in-Equal : goal.returns-in-Equal
returns-in-Equal g c =
    let es = c.args.self.now.entries in
    let middle = c.loop-low.low + (c.loop-low.high - c.loop-low.low) / 2 in
    let read = read_at _ es middle c.index.result.now (ap entries_of c.self.view_is) (omega (arith, c.loop-low-test.true, c.loop-low.invariant.within, ap length (ap entries_of c.self.view_is))) c.index.ensures in
    here_found c.args.name.now es middle c.index.result.now c.args.self.now.ascending read.0 read.1
    (compared c.args.name.now _ _ _ c.in-Equal.ensures c.as_str.ensures.text)

pub loop-low-preserved : goal.loop-low-preserved
loop-low-preserved g c =
    let es = c.args.self.now.entries in
    let middle = c.loop-low.low + (c.loop-low.high - c.loop-low.low) / 2 in
    let read = read_at _ es middle c.index.result.now (ap entries_of c.self.view_is) (omega (arith, c.loop-low-test.true, c.loop-low.invariant.within, ap length (ap entries_of c.self.view_is))) c.index.ensures in
    record {
      within = c.loop-low.invariant.within;
      order = omega (arith, c.loop-low-test.true);
      low = before_found c.args.name.now es middle c.index.result.now c.args.self.now.ascending read.0 read.1
          (compared c.args.name.now _ _ _ c.in-Greater.ensures c.as_str.ensures.text);
      high = c.loop-low.invariant.high;
    }

pub returns : goal.returns
returns g c =
    free_between c.args.name.now c.args.self.now.entries c.loop-low.low c.loop-low.high c.args.self.now.ascending
    (omega (arith, c.loop-low-test.false, c.loop-low.invariant.order)) c.loop-low.invariant.within c.loop-low.invariant.low c.loop-low.invariant.high
