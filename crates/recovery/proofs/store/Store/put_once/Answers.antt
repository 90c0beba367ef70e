use Rattle.std.proofs.Common.{◌≡◌, ◌≤◌, ℕ, ◌+◌, ◌*◌, true, false, List, length, not, refl, sym, ◌∙◌, ap, subst, arith, rules}
use Rattle.std.proofs.lemmas.Bool.{false≢true}
use Rattle.std.proofs.lemmas.List.{with_items_is}
use Rattle.revision.specs.State.{State}
use Rattle.history.specs.Cell.{cells_at}
use Rattle.history.specs.Running.{Runs}
use Rattle.milestone.specs.declared.cells.Cells.{Cells}
use Rattle.milestone.specs.Job.{Job}
use Rattle.recovery.specs.Cells.{AreCellsOf, FitEach}
use Rattle.recovery.specs.declared.group.Member.{Member}
use Rattle.segments.specs.Ring.{size_of}
use Rattle.recovery.specs.Found.{commands_of, limits_of}
use Rattle.recovery.specs.Jobs.{AllKeep, KeepsLimits, CanAllBePut}
use Rattle.recovery.specs.Open.{kept_jobs}
use Rattle.recovery.specs.PutJobs.{with_all_put}
use Rattle.recovery.specs.steps.Group.{is_in, HasPlaces, HaveClosed, StandTogether, AreKept}
use Rattle.recovery.proofs.Going.{goes_nowhere}
use Rattle.recovery.proofs.KeptJobs.{all_passing}
use Rattle.recovery.proofs.KeptMembers.{jobs_put, spelled_among, put_of, dropped_jobs, kept_places, kept_cells, kept_below, kept_others, room_closed, kept_pairs, kept_away, kept_stands, nothing_put}
use Rattle.recovery.proofs.Mixed.{parts_mixed, ring_mixed, runs_mixed}
use Rattle.recovery.proofs.OneRound.{costs_wider, costs_still}
use Rattle.recovery.proofs.PutGroups.{fault_here, good_here, none_in}
use Rattle.recovery.proofs.PutOnce.{cell_among, length_all_put, once_found, once_fit, once_hold, once_may}
use Rattle.recovery.proofs.store.Store.put_once.Goals as goal

pub put_each-requires : goal.put_each-requires
put_each-requires g c =
    let kept = c.requires.kept in
    record {
      places = subst (λ (l : List Cells). HasPlaces c.args.members.now l (length (g.D.Disk.seen c.args.self.now.device))) (sym c.deref_mut.ensures.value)
          (kept_places c.args.self.now kept.0 c.args.members.now kept.1);
    }

-- no members
pub returns-then-is_empty-clause-put : goal.returns-then-is_empty-clause-put
returns-then-is_empty-clause-put g c composed are =
    let none : length c.args.members.now ≡ 0 = search rules in
    nothing_put c.args.self.now composed (subst (λ (l : List Member). AreKept composed l c.args.self.now) (none_in c.args.members.now none) are)

pub returns-then-is_empty-clause-costs : goal.returns-then-is_empty-clause-costs
returns-then-is_empty-clause-costs g c composed are few = record {
  all = costs_still g.D.Disk (3 * length composed + 3) 3 c.args.self.now.device c.args.self.now.device refl;
  fewer = λ room. costs_still g.D.Disk (2 * length composed + 2) 2 c.args.self.now.device c.args.self.now.device refl;
}

pub returns-then-is_empty-clause-goes : goal.returns-then-is_empty-clause-goes
returns-then-is_empty-clause-goes g c = goes_nowhere c.args.self.now

-- there are some
pub returns-in-Ok-clause-none : goal.returns-in-Ok-clause-none
returns-in-Ok-clause-none g c empty =
    let some : 1 ≤ length c.args.members.now = search rules in
    absurd (omega (arith, some, ap (λ (l : List Member). length l) empty))

pub returns-in-Err-clause-none : goal.returns-in-Err-clause-none
returns-in-Err-clause-none g c empty =
    let some : 1 ≤ length c.args.members.now = search rules in
    absurd (omega (arith, some, ap (λ (l : List Member). length l) empty))

-- what the store keeps
pub invariant_of-self : goal.invariant_of-self
invariant_of-self g c =
    let store = c.args.self.now in
    let are = c.put_each.ensures.writes.placed store.shape (subst (AreCellsOf store.shape) (sym c.deref_mut.ensures.value) store.placed) in
    record {
      within = omega (arith, store.within, c.put_each.ensures.writes.only_written.length);
      slot = subst (λ (s : State). size_of store.ring ≡ s.limits.width + 19) (sym c.prune_each.ensures) store.slot;
      in_range = store.in_range;
      long = omega (arith, store.long, c.put_each.ensures.writes.only_written.length);
      bounded = ap (λ (s : State). s.limits) c.prune_each.ensures ∙ store.bounded;
      placed = subst (AreCellsOf store.shape) (sym (with_items_is store.cells c.put_each.new.cells (omega (arith, are.count, store.placed.count, store.cells.ok.0)))) are;
      composable = subst (AllKeep (limits_of store.shape)) (sym c.drop_jobs.ensures)
          (all_passing (KeepsLimits (limits_of store.shape)) (λ (job : Job). not (is_in c.args.members.now job.document)) (kept_jobs store) store.composable);
    }

pub invariant_of-self-in-Err-clause-placed : goal.invariant_of-self-in-Err-clause-placed
invariant_of-self-in-Err-clause-placed g c =
    let store = c.args.self.now in
    let are = c.put_each.ensures.writes.placed store.shape (subst (AreCellsOf store.shape) (sym c.deref_mut.ensures.value) store.placed) in
    subst (AreCellsOf store.shape) (sym (with_items_is store.cells c.put_each.new.cells (omega (arith, are.count, store.placed.count, store.cells.ok.0)))) are

-- the cells are put
pub returns-in-Ok-clause-put : goal.returns-in-Ok-clause-put
returns-in-Ok-clause-put g c composed kept = record {
  put = jobs_put c.args.self.now composed c.args.members.now kept.made;
  are = put_of c.args.self.now composed c.args.members.now kept;
  dropped = c.drop_jobs.ensures ∙ dropped_jobs c.args.self.now composed c.args.members.now kept;
  now = λ is_open.
      let store = c.args.self.now in
      let ms = c.args.members.now in
      let jobs = jobs_put store composed ms kept.made in
      let put = λ (n : ℕ). cell_among jobs n in
      let content = g.D.Disk.seen c.put_each.new.device in
      let placed = subst (AreCellsOf store.shape) (sym c.deref_mut.ensures.value) store.placed in
      let together = subst (λ (l : List Cells). StandTogether g.D.Disk store.shape ms (λ n. cells_at is_open.cells n) l store.device) (sym c.deref_mut.ensures.value)
      (kept_stands store composed ms kept is_open) in
      let outside = c.put_each.ensures.writes.outside store.shape placed in
      let are = c.put_each.ensures.writes.placed store.shape placed in
      let stand = c.in-Ok.ensures.done store.shape (λ n. cells_at is_open.cells n) put together (spelled_among store composed ms kept.made kept.distinct) in
      let back = with_items_is store.cells c.put_each.new.cells (omega (arith, are.count, store.placed.count, store.cells.ok.0)) in
      let pairs = with_all_put jobs is_open.cells in
      let each = kept_pairs store composed ms kept is_open in
      let count : length pairs ≡ store.shape.docs = length_all_put jobs is_open.cells ∙ is_open.holds.laid_out.in_cells.count in
      let are_cells = kept_cells store composed ms kept is_open in
      let below = kept_below store composed ms kept is_open in
      let hold = once_hold store is_open ms put are_cells below pairs each c.put_each.new.cells content are stand in
      let may = once_may store is_open ms put are_cells below pairs each c.put_each.new.cells content are stand in
      record {
        goes_on = record {
          synced = c.in-Ok.ensures.synced;
          cells = pairs;
          table = is_open.table;
          batches = is_open.batches;
          order = is_open.order;
          holds = parts_mixed store is_open content pairs outside count hold may;
          fits = ring_mixed store is_open content outside;
          ring_at = is_open.ring_at;
          ring_size = is_open.ring_size;
          cells_are = subst (AreCellsOf store.shape) (sym back) are;
          cells_fit = subst (λ (l : List Cells). FitEach content l pairs) (sym back) (once_fit store is_open ms put are_cells below pairs each c.put_each.new.cells content are stand);
          marked = is_open.marked;
          limits = subst (λ (s : State). s.limits ≡ limits_of store.shape) (sym c.prune_each.ensures) is_open.limits;
          runs = subst (Runs is_open.order pairs (commands_of is_open.batches)) (sym c.prune_each.ensures) (runs_mixed store is_open content pairs outside count hold may);
          kept = subst (CanAllBePut is_open.order pairs) (sym c.drop_jobs.ensures) (kept_others store composed ms kept is_open pairs (kept_away store composed ms kept is_open));
        };
        same_table = refl;
        cells = refl;
      };
}

pub returns-in-Ok-clause-keeps : goal.returns-in-Ok-clause-keeps
returns-in-Ok-clause-keeps g c = record { state = c.prune_each.ensures; ring = refl; marks = refl }

pub returns-in-Ok-clause-costs : goal.returns-in-Ok-clause-costs
returns-in-Ok-clause-costs g c composed kept few =
    let store = c.args.self.now in
    let k = length c.args.members.now in
    let count = length composed in
    record {
      all = costs_wider g.D.Disk (3 * k + 3) (3 * count + 3) 3 3 store.device c.put_each.new.device (omega (arith, few)) (omega arith) c.put_each.ensures.writes.costs;
      fewer = λ room.
          costs_wider g.D.Disk (2 * k + 2) (2 * count + 2) 2 2 store.device c.put_each.new.device (omega (arith, few)) (omega arith)
          (c.put_each.ensures.fewer (subst (λ (l : List Cells). HaveClosed c.args.members.now l) (sym c.deref_mut.ensures.value) (room_closed store composed c.args.members.now kept room)));
    }

pub returns-in-Ok-clause-faults : goal.returns-in-Ok-clause-faults
returns-in-Ok-clause-faults g c = good_here c.args.self.now _ c.requires.working tt c.requires.working c.in-Ok.ensures.faults.good c.put_each.ensures.writes.only_written.honest

pub returns-in-Ok-clause-goes : goal.returns-in-Ok-clause-goes
returns-in-Ok-clause-goes g c = record {
  any_moment = λ works is_open.
      let store = c.args.self.now in
      let ms = c.args.members.now in
      let composed = c.requires.kept.0 in
      let kept = c.requires.kept.1 in
      let put = λ (n : ℕ). cell_among (jobs_put store composed ms kept.made) n in
      once_found store is_open ms put (kept_cells store composed ms kept is_open) (kept_below store composed ms kept is_open) c.put_each.new.device
      (c.put_each.ensures.any_moment store.shape (λ n. cells_at is_open.cells n) put
      (subst (λ (l : List Cells). StandTogether g.D.Disk store.shape ms (λ n. cells_at is_open.cells n) l store.device) (sym c.deref_mut.ensures.value) (kept_stands store composed ms kept is_open))
      (spelled_among store composed ms kept.made kept.distinct));
  opens = λ works is_open. ((returns-in-Ok-clause-put g c c.requires.kept.0 c.requires.kept.1).now is_open).goes_on;
  stays = λ failed. absurd (false≢true (sym c.requires.working ∙ failed));
}

-- a call of the device failed
pub returns-in-Err-clause-costs : goal.returns-in-Err-clause-costs
returns-in-Err-clause-costs g c composed kept few =
    let store = c.args.self.now in
    let k = length c.args.members.now in
    let count = length composed in
    record {
      all = costs_wider g.D.Disk (3 * k + 3) (3 * count + 3) 3 3 store.device c.put_each.new.device (omega (arith, few)) (omega arith) c.put_each.ensures.writes.costs;
      fewer = λ room.
          costs_wider g.D.Disk (2 * k + 2) (2 * count + 2) 2 2 store.device c.put_each.new.device (omega (arith, few)) (omega arith)
          (c.put_each.ensures.fewer (subst (λ (l : List Cells). HaveClosed c.args.members.now l) (sym c.deref_mut.ensures.value) (room_closed store composed c.args.members.now kept room)));
    }

pub returns-in-Err-clause-faults : goal.returns-in-Err-clause-faults
returns-in-Err-clause-faults g c = fault_here c.args.self.now _ c.requires.working c.in-Err.field-0 refl c.in-Err.ensures.faults c.put_each.ensures.writes.only_written.honest

pub returns-in-Err-clause-goes : goal.returns-in-Err-clause-goes
returns-in-Err-clause-goes g c = record {
  any_moment = λ works is_open.
      let store = c.args.self.now in
      let ms = c.args.members.now in
      let composed = c.requires.kept.0 in
      let kept = c.requires.kept.1 in
      let put = λ (n : ℕ). cell_among (jobs_put store composed ms kept.made) n in
      once_found store is_open ms put (kept_cells store composed ms kept is_open) (kept_below store composed ms kept is_open) c.put_each.new.device
      (c.put_each.ensures.any_moment store.shape (λ n. cells_at is_open.cells n) put
      (subst (λ (l : List Cells). StandTogether g.D.Disk store.shape ms (λ n. cells_at is_open.cells n) l store.device) (sym c.deref_mut.ensures.value) (kept_stands store composed ms kept is_open))
      (spelled_among store composed ms kept.made kept.distinct));
  opens = λ works. absurd (false≢true (sym works));
  stays = λ failed. absurd (false≢true (sym c.requires.working ∙ failed));
}
