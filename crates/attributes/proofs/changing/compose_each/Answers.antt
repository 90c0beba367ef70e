use Rattle.std.proofs.Common.{◌∙◌, refl, length, ap, arith}
use Rattle.attributes.specs.Map.{contains, overwritten, without}
use Rattle.attributes.proofs.Places.{read_at}
use Rattle.attributes.proofs.Prefixes.{prefix, prefix-over, overwritten-none, overwritten-more, insert-same, without-none}
use Rattle.attributes.proofs.Merging.{kept-same, overwritten-kept, overwritten-without}
use Rattle.attributes.proofs.changing.compose_each.Goals as goal

pub loop-kept-init : goal.loop-kept-init
loop-kept-init c =
    let old = c.args.first.now in
    let new = c.args.second.now in
    record {
      kept = omega arith;
      made = omega arith;
      both = c.new-both.ensures ∙ (without-none old new ∙ overwritten-none (without (prefix old 0) new) new);
    }

pub loop-kept-preserved-then-is_next : goal.loop-kept-preserved-then-is_next
loop-kept-preserved-then-is_next c =
    let old = c.args.first.now in
    let new = c.args.second.now in
    let entry = c.index-old-kept.result in
    let read = read_at _ old.entries c.loop-kept.kept entry c.entries-old.ensures (c.if-is_next.ensures.first refl) c.index-old-kept.is in
    record {
      kept = omega (arith, read.0);
      made = c.loop-kept.invariant.made;
      both =
          c.in_ok-keep.ensures.ok
          ∙ (kept-same (contains new entry.0) entry c.loop-kept.invariant.both ∙ overwritten-kept old new c.loop-kept.kept c.loop-kept.made entry read.0 read.1);
    }

pub loop-kept-preserved : goal.loop-kept-preserved
loop-kept-preserved c =
    let old = c.args.first.now in
    let new = c.args.second.now in
    let entry = c.index-new-made.result in
    let read = read_at _ new.entries c.loop-kept.made entry c.entries-new.ensures (c.if-is_next.ensures.second refl) c.index-new-made.is in
    record {
      kept = c.loop-kept.invariant.kept;
      made = omega (arith, read.0);
      both =
          c.in_ok-set_copy.ensures.ok
          ∙ (insert-same c.loop-kept.invariant.both refl refl ∙ overwritten-more new c.loop-kept.made entry read.0 read.1 (without (prefix old c.loop-kept.kept) new));
    }

pub returns : goal.returns
returns c =
    let old = c.args.first.now in
    let new = c.args.second.now in
    let all_old = prefix-over old old.entries c.loop-kept.kept refl c.loop-kept.invariant.kept (omega (arith, c.if-kept-old.false, ap length c.entries-old.ensures)) in
    let all_new = prefix-over new new.entries c.loop-kept.made refl c.loop-kept.invariant.made (omega (arith, c.if-made-new.false, ap length c.entries-new.ensures)) in
    record {
      value =
          c.loop-kept.invariant.both
          ∙ (ap (λ m. overwritten (without m new) (prefix new c.loop-kept.made)) all_old ∙ (ap (overwritten (without old new)) all_new ∙ overwritten-without old new));
    }
