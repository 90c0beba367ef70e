use Rattle.std.proofs.Common.{◌+◌, ◌-◌, ◌/◌, length, ap, arith}
use Rattle.attributes.specs.Map.{entries_of}
use Rattle.attributes.specs.Table.{none_before}
use Rattle.attributes.proofs.CallerLemmas.{here_at, before_more}
use Rattle.revision.proofs.Halves.{read_at, compared, before-equal, before-greater, free_between}
use Rattle.revision.proofs.past.sources.Sources.place.Goals as goal

pub loop-low-init : goal.loop-low-init
loop-low-init c =
    let same = ap length (ap entries_of c.self.view_is) in
    record {
      within = omega (arith, same, c.len-high.ensures);
      order = omega arith;
      before = none_before;
      above = λ e inside is. absurd (omega (arith, same, c.len-high.ensures, inside));
    }

pub returns-in-Equal : goal.returns-in-Equal
returns-in-Equal c =
    let es = c.args.self.now.entries in
    let middle = c.loop-low.low + (c.loop-low.high - c.loop-low.low) / 2 in
    let read = read_at _ es middle c.index.result.now (ap entries_of c.self.view_is) (omega (arith, c.loop-low-test.true, c.loop-low.invariant.within, ap length (ap entries_of c.self.view_is))) c.index.ensures in
    let equal = compared c.args.name.now _ _ _ c.in-Equal.ensures c.as_str.ensures.text in
    here_at c.args.name.now es middle c.args.self.now.ascending (before-equal c.args.name.now es middle c.index.result.now c.args.self.now.ascending read.0 read.1 equal)
    c.index.result.now read.0 read.1 equal

pub loop-low-preserved : goal.loop-low-preserved
loop-low-preserved c =
    let es = c.args.self.now.entries in
    let middle = c.loop-low.low + (c.loop-low.high - c.loop-low.low) / 2 in
    let read = read_at _ es middle c.index.result.now (ap entries_of c.self.view_is) (omega (arith, c.loop-low-test.true, c.loop-low.invariant.within, ap length (ap entries_of c.self.view_is))) c.index.ensures in
    let greater = compared c.args.name.now _ _ _ c.in-Greater.ensures c.as_str.ensures.text in
    record {
      within = c.loop-low.invariant.within;
      order = omega (arith, c.loop-low-test.true);
      before = before_more c.args.name.now es middle c.args.self.now.ascending
          (before-greater c.args.name.now es middle c.index.result.now c.args.self.now.ascending read.0 read.1 greater) c.index.result.now read.0 read.1 greater;
      above = c.loop-low.invariant.above;
    }

pub returns : goal.returns
returns c =
    free_between c.args.name.now c.args.self.now.entries c.loop-low.low c.loop-low.high c.args.self.now.ascending
    (omega (arith, c.loop-low-test.false, c.loop-low.invariant.order)) c.loop-low.invariant.within c.loop-low.invariant.before c.loop-low.invariant.above
