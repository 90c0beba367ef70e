use Rattle.std.proofs.Common.{◌≡◌, ◌≤◌, ◌+◌, List, get_or, subst, sym, ap, arith, Vec, Global}
use Rattle.recovery.specs.declared.group.Member.{Member}
use Rattle.recovery.specs.steps.Freeing.{bytes_of, AreBounded, IsGathered}
use Rattle.recovery.proofs.FullGroups.{bytes_push, bounded_few, bounded_push}
use Rattle.recovery.proofs.Gathered.{gathered_none, gathered_pass, gathered_push}
use Rattle.recovery.proofs.store.Store.gather.Goals as goal
use Rattle.recovery.proofs.store.Store.gather.Goals.{then-marked-document-gt0+in-Ok+else-bytes-ge-MOST_BYTES, else-marked-document-gt0}

pub loop-document-init : goal.loop-document-init
loop-document-init g c = record {
  behind = omega arith;
  bytes = omega (arith, ap (λ (l : List Member). bytes_of l) c.new-members.ensures.items);
  few = omega arith;
  gathered = subst (λ (l : List Member). IsGathered c.args.marked.now c.args.from c.args.from l c.args.self.now) (sym c.new-members.ensures.items)
      (gathered_none c.args.self.now c.args.marked.now c.args.from);
}

pub returns-then-bytes-ge-MOST_BYTES-clause-gathered : goal.returns-then-bytes-ge-MOST_BYTES-clause-gathered
returns-then-bytes-ge-MOST_BYTES-clause-gathered g c =
    let store = c.args.self.now in
    let marked = c.args.marked.now in
    let at = c.loop-document.document in
    let added = c.in-Ok.ensures.added in
    let some : 1 ≤ get_or marked at 0 = omega (arith, c.if-marked-document-gt0.true) in
    subst (λ (l : List Member). IsGathered marked c.args.from (at + 1) l store) (sym added.1)
    (gathered_push store marked c.args.from at c.loop-document.members.items c.loop-document-test.true c.loop-document.invariant.gathered added.0 c.loop-document.invariant.behind some added.3 added.2)

-- the bytes that were counted are those of the members
pub returns-then-bytes-ge-MOST_BYTES-clause-full : goal.returns-then-bytes-ge-MOST_BYTES-clause-full
returns-then-bytes-ge-MOST_BYTES-clause-full g c more =
    let added = c.in-Ok.ensures.added in
    omega (
      arith,
      c.if-bytes-ge-MOST_BYTES.true,
      c.saturating_add-bytes.ensures,
      c.loop-document.invariant.bytes,
      added.4,
      bytes_push c.loop-document.members.items added.0,
      ap (λ (l : List Member). bytes_of l) added.1,
    )

pub returns-then-bytes-ge-MOST_BYTES-clause-bounded : goal.returns-then-bytes-ge-MOST_BYTES-clause-bounded
returns-then-bytes-ge-MOST_BYTES-clause-bounded g c =
    let added = c.in-Ok.ensures.added in
    subst (λ (l : List Member). AreBounded l) (sym added.1)
    (bounded_push c.loop-document.members.items added.0 (omega (arith, c.loop-document.invariant.bytes, c.loop-document.invariant.few)))

pub returns-clause-bounded : goal.returns-clause-bounded
returns-clause-bounded g c = bounded_few c.loop-document.members.items (omega (arith, c.loop-document.invariant.bytes, c.loop-document.invariant.few))

pub loop-document-preserved : goal.loop-document-preserved
loop-document-preserved g c =
    let store = c.args.self.now in
    let marked = c.args.marked.now in
    let at = c.loop-document.document in
    record {
      behind = omega (arith, c.loop-document.invariant.behind);
      bytes = elim c.if-marked-document-gt0.branch [
        | then-marked-document-gt0+in-Ok+else-bytes-ge-MOST_BYTES w ↦
            let added = w.in-Ok.ensures.added in
            omega (
              arith,
              w.bytes-is,
              w.saturating_add-bytes.ensures,
              w.if-bytes-ge-MOST_BYTES.false,
              c.loop-document.invariant.bytes,
              added.4,
              bytes_push c.loop-document.members.items added.0,
              ap (λ (l : List Member). bytes_of l) added.1,
              ap (λ (v : Vec Member Global). bytes_of v.items) w.members-is,
            )
        | else-marked-document-gt0 w ↦ omega (arith, w.bytes-is, c.loop-document.invariant.bytes, ap (λ (v : Vec Member Global). bytes_of v.items) w.members-is)
      ];
      few = elim c.if-marked-document-gt0.branch [
        | then-marked-document-gt0+in-Ok+else-bytes-ge-MOST_BYTES w ↦ omega (arith, w.bytes-is, w.if-bytes-ge-MOST_BYTES.false)
        | else-marked-document-gt0 w ↦ omega (arith, w.bytes-is, c.loop-document.invariant.few)
      ];
      gathered = elim c.if-marked-document-gt0.branch [
        | then-marked-document-gt0+in-Ok+else-bytes-ge-MOST_BYTES w ↦
            let added = w.in-Ok.ensures.added in
            let some : 1 ≤ get_or marked at 0 = omega (arith, w.if-marked-document-gt0.true) in
            subst (λ (v : Vec Member Global). IsGathered marked c.args.from (at + 1) v.items store) (sym w.members-is)
            (subst (λ (l : List Member). IsGathered marked c.args.from (at + 1) l store) (sym added.1)
            (gathered_push store marked c.args.from at c.loop-document.members.items c.loop-document-test.true c.loop-document.invariant.gathered added.0 c.loop-document.invariant.behind some added.3
            added.2))
        | else-marked-document-gt0 w ↦
            let none : get_or marked at 0 ≡ 0 = omega (arith, w.if-marked-document-gt0.false) in
            subst (λ (v : Vec Member Global). IsGathered marked c.args.from (at + 1) v.items store) (sym w.members-is)
            (gathered_pass store marked c.args.from at c.loop-document.members.items c.loop-document-test.true c.loop-document.invariant.gathered none)
      ];
    }
