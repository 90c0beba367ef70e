use Rattle.std.proofs.Common.{◌≡◌, inl, inr, ◌+◌, ◌<◌, List, [], ◌∷◌, ◌++◌, length, take, refl, sym, ◌∙◌, ap, subst, arith}
use Rattle.std.proofs.lemmas.List.{take_more, take_all}
use Rattle.milestone.specs.Job.{Job}
use Rattle.recovery.specs.declared.group.Member.{Member}
use Rattle.recovery.specs.Freed.{most_bytes}
use Rattle.recovery.specs.steps.Freeing.{bytes_of, AreBounded}
use Rattle.recovery.specs.steps.Group.{AreKept}
use Rattle.recovery.proofs.FullGroups.{bounded_few}
use Rattle.recovery.proofs.KeptMembers.{kept_none, kept_next, few_next, bounded_next, some_length, no_jobs}
use Rattle.recovery.proofs.store.Store.spell_kept.Goals as goal

pub loop-place-init : goal.loop-place-init
loop-place-init g c = record {
  kept = subst (λ (l : List Member). AreKept [] l c.args.self.now) (sym c.new-members.ensures.items) (kept_none c.args.self.now);
  none = λ first. refl;
  few = omega (arith, ap (λ (l : List Member). length l) c.new-members.ensures.items);
  bytes = λ below. omega (arith, ap (λ (l : List Member). bytes_of l) c.new-members.ensures.items);
  bounded = bounded_few c.new-members.result.items (omega (arith, ap (λ (l : List Member). bytes_of l) c.new-members.ensures.items));
}

-- there are enough
pub returns-then-bytes-ge-MOST_BYTES-clause-count : goal.returns-then-bytes-ge-MOST_BYTES-clause-count
returns-then-bytes-ge-MOST_BYTES-clause-count g c = (
  omega (arith, c.loop-place-test.true),
  λ some. elim (some_length c.loop-place.place) [
    | inr more ↦ more
    | inl first ↦ absurd (omega (arith, c.if-bytes-ge-MOST_BYTES.true, c.loop-place.invariant.none first))
  ],
)

-- there was no memory for the next one
pub returns-in-Err-clause-count : goal.returns-in-Err-clause-count
returns-in-Err-clause-count g c = (
  omega (arith, c.loop-place-test.true),
  λ some. elim (some_length c.loop-place.place) [
    | inr more ↦ more
    | inl first ↦ absurd (c.if-place-eq0.false first)
  ],
)

pub returns-in-Err-clause-kept : goal.returns-in-Err-clause-kept
returns-in-Err-clause-kept g c =
    subst (λ (l : List Member). AreKept (take c.loop-place.place c.args.composed.now) l c.args.self.now) (sym c.in-Err.ensures.refused) c.loop-place.invariant.kept

pub returns-in-Err-clause-few : goal.returns-in-Err-clause-few
returns-in-Err-clause-few g c = omega (arith, c.loop-place.invariant.few, ap (λ (l : List Member). length l) c.in-Err.ensures.refused)

pub returns-in-Err-clause-bounded : goal.returns-in-Err-clause-bounded
returns-in-Err-clause-bounded g c = subst (λ (l : List Member). AreBounded l) (sym c.in-Err.ensures.refused) c.loop-place.invariant.bounded

-- the next one was added, or passed
pub loop-place-preserved : goal.loop-place-preserved
loop-place-preserved g c =
    let store = c.args.self.now in
    let composed : List Job = c.args.composed.now in
    let k = c.loop-place.place in
    let job : Job = c.index-composed-place.result in
    let all : take (k + 1) composed ≡ take k composed ++ job ∷ [] =
    take_more composed k job c.loop-place-test.true ∙ ap (λ (j : Job). take k composed ++ j ∷ []) (sym c.index-composed-place.is) in
    let before : List Member = c.loop-place.members.items in
    let few : bytes_of before < most_bytes = omega (arith, c.if-bytes-ge-MOST_BYTES.false, c.loop-place.invariant.bytes) in
    record {
      kept = subst (λ (l : List Job). AreKept l c.add_kept.new.members.items store) (sym all)
          (kept_next store (take k composed) job before c.add_kept.new.members.items c.loop-place.invariant.kept c.in-Ok.ensures.added);
      none = λ first. absurd (omega (arith, first));
      few = few_next store job before c.add_kept.new.members.items k c.loop-place.invariant.few c.in-Ok.ensures.added;
      bytes = λ below. omega (arith, below, c.saturating_add-bytes.ensures, c.if-bytes-ge-MOST_BYTES.false, c.loop-place.invariant.bytes, c.in-Ok.ensures.counted);
      bounded = bounded_next store job before c.add_kept.new.members.items few c.in-Ok.ensures.added;
    }

-- behind the last one
pub returns-clause-count : goal.returns-clause-count
returns-clause-count g c = (
  omega arith,
  λ some. elim (some_length (length c.args.composed.now)) [
    | inr more ↦ more
    | inl none ↦ absurd (some (no_jobs c.args.composed.now none))
  ],
)

pub returns-clause-kept : goal.returns-clause-kept
returns-clause-kept g c =
    let composed : List Job = c.args.composed.now in
    subst (λ (l : List Job). AreKept l c.loop-place.members.items c.args.self.now)
    (take_all c.loop-place.place composed (omega (arith, c.loop-place-test.false)) ∙ sym (take_all (length composed) composed (omega arith))) c.loop-place.invariant.kept
