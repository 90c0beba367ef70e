use Rattle.std.proofs.Common.{◌≡◌, ◌≤◌, ◌+◌, true, false, List, length, not, refl, sym, ◌∙◌, ap, subst, arith, rules}
use Rattle.std.proofs.lemmas.Bool.{false≢true}
use Rattle.std.proofs.lemmas.List.{with_items_is}
use Rattle.revision.specs.State.{State}
use Rattle.history.specs.Cell.{cells_at}
use Rattle.history.specs.Running.{Runs}
use Rattle.milestone.specs.declared.cells.Cells.{Cells}
use Rattle.milestone.specs.Job.{Job}
use Rattle.recovery.specs.Cells.{AreCellsOf, FitEach}
use Rattle.recovery.specs.declared.group.Member.{Member}
use Rattle.segments.specs.Ring.{size_of}
use Rattle.recovery.specs.Found.{commands_of, limits_of}
use Rattle.recovery.specs.Jobs.{AllKeep, KeepsLimits, CanAllBePut}
use Rattle.recovery.specs.Open.{state_of, kept_jobs}
use Rattle.recovery.specs.steps.Group.{newest_at, is_in, outside_jobs, HasPlaces, StandTogether}
use Rattle.recovery.proofs.CellsAlone.{cells_still}
use Rattle.recovery.proofs.DroppedJobs.{outside_none}
use Rattle.recovery.proofs.Going.{goes_nowhere}
use Rattle.recovery.proofs.KeptJobs.{all_passing}
use Rattle.recovery.proofs.Mixed.{parts_mixed, ring_mixed, runs_mixed}
use Rattle.recovery.proofs.PutGroups.{group_places, group_spelled, group_stands, group_found, put_pairs, pairs_other, pairs_own, pairs_may, pairs_fit, pairs_hold, kept_outside, fault_here, good_here, none_in, none_put}
use Rattle.recovery.proofs.store.Store.put_group.Goals as goal

pub put_both-requires : goal.put_both-requires
put_both-requires g c = record {
  places = subst (λ (l : List Cells). HasPlaces c.args.members.now l (length (g.D.Disk.seen c.args.self.now.device))) (sym c.deref_mut.ensures.value)
      (group_places c.args.self.now c.args.members.now c.requires.group);
}

-- no members
pub returns-then-is_empty-clause-put : goal.returns-then-is_empty-clause-put
returns-then-is_empty-clause-put g c is_open =
    let none : length c.args.members.now ≡ 0 = search rules in
    none_put c.args.self.now c.args.members.now is_open (none_in c.args.members.now none)

pub returns-then-is_empty-clause-dropped : goal.returns-then-is_empty-clause-dropped
returns-then-is_empty-clause-dropped g c =
    let none : length c.args.members.now ≡ 0 = search rules in
    sym (ap (λ (l : List Member). outside_jobs l (kept_jobs c.args.self.now)) (none_in c.args.members.now none) ∙ outside_none (kept_jobs c.args.self.now))

pub returns-then-is_empty-clause-goes : goal.returns-then-is_empty-clause-goes
returns-then-is_empty-clause-goes g c = goes_nowhere c.args.self.now

pub returns-then-is_empty-clause-syncs : goal.returns-then-is_empty-clause-syncs
returns-then-is_empty-clause-syncs g c = record { syncs = omega arith; faults = omega arith }

pub returns-then-is_empty-clause-outside : goal.returns-then-is_empty-clause-outside
returns-then-is_empty-clause-outside g c = cells_still c.args.self.now

-- what the store keeps
pub invariant_of-self : goal.invariant_of-self
invariant_of-self g c =
    let store = c.args.self.now in
    let are = c.put_both.ensures.writes.placed store.shape (subst (AreCellsOf store.shape) (sym c.deref_mut.ensures.value) store.placed) in
    record {
      within = omega (arith, store.within, c.put_both.ensures.writes.only_written.length);
      slot = subst (λ (s : State). size_of store.ring ≡ s.limits.width + 19) (sym c.prune_each.ensures) store.slot;
      in_range = store.in_range;
      long = omega (arith, store.long, c.put_both.ensures.writes.only_written.length);
      bounded = ap (λ (s : State). s.limits) c.prune_each.ensures ∙ store.bounded;
      placed = subst (AreCellsOf store.shape) (sym (with_items_is store.cells c.put_both.new.cells (omega (arith, are.count, store.placed.count, store.cells.ok.0)))) are;
      composable = subst (AllKeep (limits_of store.shape)) (sym c.drop_jobs.ensures)
          (all_passing (KeepsLimits (limits_of store.shape)) (λ (job : Job). not (is_in c.args.members.now job.document)) (kept_jobs store) store.composable);
    }

pub invariant_of-self-in-Err-clause-placed : goal.invariant_of-self-in-Err-clause-placed
invariant_of-self-in-Err-clause-placed g c =
    let store = c.args.self.now in
    let are = c.put_both.ensures.writes.placed store.shape (subst (AreCellsOf store.shape) (sym c.deref_mut.ensures.value) store.placed) in
    subst (AreCellsOf store.shape) (sym (with_items_is store.cells c.put_both.new.cells (omega (arith, are.count, store.placed.count, store.cells.ok.0)))) are

pub invariant_of-self-in-Err-clause-composable : goal.invariant_of-self-in-Err-clause-composable
invariant_of-self-in-Err-clause-composable g c =
    let store = c.args.self.now in
    subst (AllKeep (limits_of store.shape)) (sym c.drop_jobs.ensures)
    (all_passing (KeepsLimits (limits_of store.shape)) (λ (job : Job). not (is_in c.args.members.now job.document)) (kept_jobs store) store.composable)

-- the cells are put
pub returns-in-Ok-clause-put : goal.returns-in-Ok-clause-put
returns-in-Ok-clause-put g c is_open =
    let store = c.args.self.now in
    let ms = c.args.members.now in
    let group = c.requires.group in
    let content = g.D.Disk.seen c.put_both.new.device in
    let placed = subst (AreCellsOf store.shape) (sym c.deref_mut.ensures.value) store.placed in
    let together = subst (λ (l : List Cells). StandTogether g.D.Disk store.shape ms (λ n. cells_at is_open.cells n) l store.device) (sym c.deref_mut.ensures.value) (group_stands store ms group is_open) in
    let outside = c.put_both.ensures.writes.outside store.shape placed in
    let are = c.put_both.ensures.writes.placed store.shape placed in
    let stand = c.in-Ok.ensures.done store.shape (λ n. cells_at is_open.cells n) (λ n. newest_at (state_of store) n) together (group_spelled store ms group) in
    let back = with_items_is store.cells c.put_both.new.cells (omega (arith, are.count, store.placed.count, store.cells.ok.0)) in
    let chosen = put_pairs store ms group is_open in
    let hold = pairs_hold store ms group is_open c.put_both.new.cells content are stand in
    let may = pairs_may store ms group is_open in
    record {
      goes_on = record {
        synced = c.in-Ok.ensures.synced;
        cells = chosen.pairs;
        table = is_open.table;
        batches = is_open.batches;
        order = is_open.order;
        holds = parts_mixed store is_open content chosen.pairs outside chosen.as_many hold may;
        fits = ring_mixed store is_open content outside;
        ring_at = is_open.ring_at;
        ring_size = is_open.ring_size;
        cells_are = subst (AreCellsOf store.shape) (sym back) are;
        cells_fit = subst (λ (l : List Cells). FitEach content l chosen.pairs) (sym back) (pairs_fit store ms group is_open c.put_both.new.cells content are stand);
        marked = is_open.marked;
        limits = subst (λ (s : State). s.limits ≡ limits_of store.shape) (sym c.prune_each.ensures) is_open.limits;
        runs = subst (Runs is_open.order chosen.pairs (commands_of is_open.batches)) (sym c.prune_each.ensures) (runs_mixed store is_open content chosen.pairs outside chosen.as_many hold may);
        kept = subst (CanAllBePut is_open.order chosen.pairs) (sym c.drop_jobs.ensures) (kept_outside store ms group is_open);
      };
      same_table = refl;
      others = pairs_other store ms group is_open;
      own = pairs_own store ms group is_open;
    }

pub returns-in-Ok-clause-calls : goal.returns-in-Ok-clause-calls
returns-in-Ok-clause-calls g c =
    let some : 1 ≤ length c.args.members.now = search rules in
    omega (arith, c.put_both.ensures.writes.costs.calls, some)

pub returns-in-Ok-clause-keeps : goal.returns-in-Ok-clause-keeps
returns-in-Ok-clause-keeps g c = record { state = c.prune_each.ensures; ring = refl; marks = refl }

pub returns-in-Ok-clause-outside : goal.returns-in-Ok-clause-outside
returns-in-Ok-clause-outside g c =
    let store = c.args.self.now in
    record { shape = refl; outside = c.put_both.ensures.writes.outside store.shape (subst (AreCellsOf store.shape) (sym c.deref_mut.ensures.value) store.placed) }

pub returns-in-Ok-clause-syncs : goal.returns-in-Ok-clause-syncs
returns-in-Ok-clause-syncs g c = record { syncs = omega (arith, c.put_both.ensures.writes.costs.syncs); faults = c.put_both.ensures.writes.costs.faults }

pub returns-in-Ok-clause-faults : goal.returns-in-Ok-clause-faults
returns-in-Ok-clause-faults g c = good_here c.args.self.now _ c.requires.working tt c.requires.working c.in-Ok.ensures.faults.good c.put_both.ensures.writes.only_written.honest

pub returns-in-Ok-clause-goes : goal.returns-in-Ok-clause-goes
returns-in-Ok-clause-goes g c = record {
  any_moment = λ works is_open.
      let store = c.args.self.now in
      let ms = c.args.members.now in
      let group = c.requires.group in
      group_found store ms group is_open c.put_both.new.device
      (c.put_both.ensures.any_moment store.shape (λ n. cells_at is_open.cells n) (λ n. newest_at (state_of store) n)
      (subst (λ (l : List Cells). StandTogether g.D.Disk store.shape ms (λ n. cells_at is_open.cells n) l store.device) (sym c.deref_mut.ensures.value) (group_stands store ms group is_open))
      (group_spelled store ms group));
  opens = λ works is_open. (returns-in-Ok-clause-put g c is_open).goes_on;
  stays = λ failed. absurd (false≢true (sym c.requires.working ∙ failed));
}

-- a call of the device failed
pub returns-in-Err-clause-calls : goal.returns-in-Err-clause-calls
returns-in-Err-clause-calls g c =
    let some : 1 ≤ length c.args.members.now = search rules in
    omega (arith, c.put_both.ensures.writes.costs.calls, some)

pub returns-in-Err-clause-outside : goal.returns-in-Err-clause-outside
returns-in-Err-clause-outside g c =
    let store = c.args.self.now in
    record { shape = refl; outside = c.put_both.ensures.writes.outside store.shape (subst (AreCellsOf store.shape) (sym c.deref_mut.ensures.value) store.placed) }

pub returns-in-Err-clause-syncs : goal.returns-in-Err-clause-syncs
returns-in-Err-clause-syncs g c = record { syncs = omega (arith, c.put_both.ensures.writes.costs.syncs); faults = c.put_both.ensures.writes.costs.faults }

pub returns-in-Err-clause-faults : goal.returns-in-Err-clause-faults
returns-in-Err-clause-faults g c = fault_here c.args.self.now _ c.requires.working c.in-Err.field-0 refl c.in-Err.ensures.faults c.put_both.ensures.writes.only_written.honest

pub returns-in-Err-clause-goes : goal.returns-in-Err-clause-goes
returns-in-Err-clause-goes g c = record {
  any_moment = λ works is_open.
      let store = c.args.self.now in
      let ms = c.args.members.now in
      let group = c.requires.group in
      group_found store ms group is_open c.put_both.new.device
      (c.put_both.ensures.any_moment store.shape (λ n. cells_at is_open.cells n) (λ n. newest_at (state_of store) n)
      (subst (λ (l : List Cells). StandTogether g.D.Disk store.shape ms (λ n. cells_at is_open.cells n) l store.device) (sym c.deref_mut.ensures.value) (group_stands store ms group is_open))
      (group_spelled store ms group));
  opens = λ works. absurd (false≢true (sym works));
  stays = λ failed. absurd (false≢true (sym c.requires.working ∙ failed));
}
