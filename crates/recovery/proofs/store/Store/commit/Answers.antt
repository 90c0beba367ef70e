use Rattle.std.proofs.Common.{◌≡◌, ◌∙◌, ◌+◌, ◌-◌, ⊎_elim, inl, inr, true, false, [], ◌∷◌, ◌++◌, refl, ap, subst, sym, rules}
use Rattle.std.proofs.lemmas.Bool.{false≢true}
use Rattle.journal.specs.BatchSpelling.{batch}
use Rattle.revision.specs.State.{Limits, State, fold, all_grow, first_grows}
use Rattle.history.specs.Shown.{with_commands}
use Rattle.history.specs.Running.{Runs}
use Rattle.recovery.specs.Found.{commands_of, limits_of}
use Rattle.recovery.specs.steps.Appending.{IsDone}
use Rattle.refusal.specs.declared.Refusal.TheVariants.{NoMemory}
use Rattle.disk.proofs.CallerLemmas.{leaves_map}
use Rattle.recovery.proofs.Commits.{with_or_without, parts_after, runs_with, limits_with}
use Rattle.recovery.proofs.Committing.{goes_unchanged, goes_unmoved}
use Rattle.std.proofs.Common.{List, length, arith}
use Rattle.recovery.specs.declared.marks.Mark.{Mark}
use Rattle.recovery.specs.Marks.{marks_of, IsNoted}
use Rattle.recovery.proofs.Upkeep.{cells_later, marked_with}
use Rattle.recovery.proofs.Faults.{goes_by}
use Rattle.recovery.proofs.Folds.{fold-limits, first_of_all}
use Rattle.recovery.proofs.Superblocks.{ranges_of}
use Rattle.recovery.specs.Open.{kept_jobs, has_room}
use Rattle.recovery.proofs.Going.{open_unchanged}
use Rattle.recovery.proofs.KeptJobs.{kept_later}
use Rattle.recovery.proofs.Refusals.{memory_no_fault, never_full, no_fault, no_stranger, or_full_or_fault, or_stranger}
use Rattle.recovery.proofs.store.Store.commit.Goals as goal

-- nothing was called
pub returns-then-self-clause-goes : goal.returns-then-self-clause-goes
returns-then-self-clause-goes g c = goes_unmoved c.args.batch.now c.args.self.now

pub returns-then-not-has_room-clause-goes : goal.returns-then-not-has_room-clause-goes
returns-then-not-has_room-clause-goes g c = goes_unmoved c.args.batch.now c.args.self.now

-- it was refused by the state, or memory ran out for its documents
pub returns-in-Err-clause-refused : goal.returns-in-Err-clause-refused
returns-in-Err-clause-refused g c =
    let commands = c.args.batch.now in
    let fits : c.has_room.result ≡ true = search rules in
    let why = c.in-Err.ensures in
    let state = why.unchanged ∙ c.replace.ensures.value in
    record {
      only = or_full_or_fault _ why.only;
      full = λ told. absurd (never_full _ why.only told);
      stranger = λ told. subst (λ (s : State). all_grow s commands ≡ false) c.replace.ensures.value (why.stranger told);
      memory = λ told. (sym c.has_room.ensures.room ∙ fits, subst (λ (s : State). first_grows s commands ≡ true) c.replace.ensures.value (why.memory told));
      unchanged = λ other. record { device = refl; shape = refl; ring = refl; cells = refl; marks = refl; jobs = refl; state = state; failed = refl };
      state = state;
      cells = refl;
      jobs = refl;
      marks = refl;
    }

pub returns-in-Err-clause-goes : goal.returns-in-Err-clause-goes
returns-in-Err-clause-goes g c = goes_unchanged c.args.batch.now ((returns-in-Err-clause-refused g c).unchanged (no_fault _ c.in-Err.ensures.only))

-- or to share it
pub returns-in_default-clause-refused : goal.returns-in_default-clause-refused
returns-in_default-clause-refused g c =
    let store = c.args.self.now in
    let commands = c.args.batch.now in
    let fits : c.has_room.result ≡ true = search rules in
    let grow : all_grow store.state commands ≡ true = subst (λ (s : State). all_grow s commands ≡ true) c.replace.ensures.value c.in-Ok.ensures.grow in
    record {
      only = inr (inr (inl refl));
      full = search rules;
      stranger = search rules;
      memory = λ told. (sym c.has_room.ensures.room ∙ fits, first_of_all store.state commands grow);
      unchanged = λ other. record {
        device = refl;
        shape = refl;
        ring = refl;
        cells = refl;
        marks = c.share_batch.ensures.same;
        jobs = refl;
        state = search rules;
        failed = refl;
      };
      state = search rules;
      cells = refl;
      jobs = refl;
      marks = c.share_batch.ensures.same;
    }

pub returns-in_default-clause-goes : goal.returns-in_default-clause-goes
returns-in_default-clause-goes g c = goes_unchanged c.args.batch.now ((returns-in_default-clause-refused g c).unchanged (memory_no_fault refl))

-- the batch was appended
pub returns-in-Ok-append_batch-clause-committed : goal.returns-in-Ok-append_batch-clause-committed
returns-in-Ok-append_batch-clause-committed g c =
    let store = c.args.self.now in
    let commands = c.args.batch.now in
    let grow : all_grow store.state commands ≡ true = subst (λ (s : State). all_grow s commands ≡ true) c.replace.ensures.value c.in-Ok.ensures.grow in
    let state : c.prune.new.self ≡ fold store.state commands =
    c.prune.ensures ∙ c.accept.ensures ∙ c.in-Ok.ensures.after ∙ ap (λ (s : State). fold s commands) c.replace.ensures.value in
    let places = c.append_batch.ensures.places in
    let appended = c.in-Ok-append_batch.ensures.appended in
    record {
      handed_out = record { names = search rules; at = search rules; synced = appended.synced };
      room = search rules;
      grow = grow;
      state = state;
      now = λ is_open.
          let done : IsDone (g.D.Disk.seen store.device) store.ring is_open.table (batch commands) (g.D.Disk.seen c.append_batch.new.disk) c.append_batch.new.ring =
          appended.done is_open.table is_open.fits in
          record {
            goes_on = record {
              synced = appended.synced;
              cells = is_open.cells;
              table = done.now;
              batches = is_open.batches ++ commands ∷ [];
              order = with_commands is_open.order commands;
              holds = parts_after store is_open commands c.has_room.ensures.is_batch grow _ c.append_batch.new.ring places done;
              fits = done.fits.fits;
              ring_at = places.at ∙ is_open.ring_at;
              ring_size = places.size ∙ is_open.ring_size;
              cells_are = is_open.cells_are;
              cells_fit = cells_later store is_open _ done.fits.outside;
              marked = marked_with store is_open commands c.has_room.ensures.is_batch _ c.append_batch.new.ring done (marks_of c.mark_batch.new.marks)
                  (λ slot number newest. subst (λ (m : List Mark). IsNoted number commands m (marks_of c.mark_batch.new.marks)) c.share_batch.ensures.same (c.mark_batch.ensures.noted slot number newest));
              limits = subst (λ (s : State). s.limits ≡ limits_of store.shape) (sym state) (limits_with store is_open commands c.has_room.ensures.is_batch grow);
              runs = subst (Runs (with_commands is_open.order commands) is_open.cells (commands_of (is_open.batches ++ commands ∷ []))) (sym state)
                  (runs_with store is_open commands c.has_room.ensures.is_batch grow);
              kept = kept_later is_open.order commands is_open.cells (kept_jobs store) is_open.kept;
            };
            same_cells = refl;
            ready = done.ready;
            is_ready = done.is_ready;
            appended = done.appended;
            jobs = refl;
          };
      cells = refl;
      jobs = refl;
      marks = omega (arith, c.mark_batch.ensures.grows, ap (λ (l : List Mark). length l) c.share_batch.ensures.same);
    }

pub returns-in-Ok-append_batch-clause-goes : goal.returns-in-Ok-append_batch-clause-goes
returns-in-Ok-append_batch-clause-goes g c =
    let store = c.args.self.now in
    let commands = c.args.batch.now in
    let grow : all_grow store.state commands ≡ true = subst (λ (s : State). all_grow s commands ≡ true) c.replace.ensures.value c.in-Ok.ensures.grow in
    record {
      any_moment = λ works is_open.
          leaves_map (λ content left. with_or_without store is_open commands c.has_room.ensures.is_batch grow content left)
          (c.append_batch.ensures.any_moment is_open.table is_open.synced is_open.fits);
      opens = λ works is_open. ((returns-in-Ok-append_batch-clause-committed g c).now is_open).goes_on;
      stays = λ failed. search rules;
    }

-- it was given up before the first call, or within one
pub returns-in-Err-append_batch-clause-refused : goal.returns-in-Err-append_batch-clause-refused
returns-in-Err-append_batch-clause-refused g c =
    let store = c.args.self.now in
    let commands = c.args.batch.now in
    let refusal = c.in-Err-append_batch.refusal in
    let left = c.in-Err-append_batch.ensures.refused in
    let fits : c.has_room.result ≡ true = search rules in
    let room : has_room store commands ≡ true = sym c.has_room.ensures.room ∙ fits in
    let grow : all_grow store.state commands ≡ true = subst (λ (s : State). all_grow s commands ≡ true) c.replace.ensures.value c.in-Ok.ensures.grow in
    let state : c.forget-in-Err-append_batch.result ≡ store.state = c.forget-in-Err-append_batch.ensures ∙ c.in-Ok.ensures.before ∙ c.replace.ensures.value in
    record {
      only = or_stranger refusal left.only;
      full = left.full;
      stranger = λ told. absurd (no_stranger refusal left.only told);
      memory = λ told. (room, first_of_all store.state commands grow);
      unchanged = λ not_fault.
          let memory : refusal ≡ NoMemory =
          ⊎_elim (λ full. absurd (false≢true (sym (left.full full) ∙ room))) (λ others. ⊎_elim (λ is. is) (λ fault. absurd (not_fault fault)) others) left.only in
          let same = left.untouched memory in
          record { device = same.0; shape = refl; ring = same.1; cells = refl; marks = c.share_batch.ensures.same; jobs = refl; state = state; failed = search rules };
      state = state;
      cells = refl;
      jobs = refl;
      marks = c.share_batch.ensures.same;
    }

pub returns-in-Err-append_batch-clause-faults : goal.returns-in-Err-append_batch-clause-faults
returns-in-Err-append_batch-clause-faults g c = search rules

pub returns-in-Err-append_batch-clause-goes : goal.returns-in-Err-append_batch-clause-goes
returns-in-Err-append_batch-clause-goes g c =
    let store = c.args.self.now in
    let commands = c.args.batch.now in
    let grow : all_grow store.state commands ≡ true = subst (λ (s : State). all_grow s commands ≡ true) c.replace.ensures.value c.in-Ok.ensures.grow in
    goes_by _ (returns-in-Err-append_batch-clause-faults g c)
    (λ works is_open.
    leaves_map (λ content left. with_or_without store is_open commands c.has_room.ensures.is_batch grow content left)
    (c.append_batch.ensures.any_moment is_open.table is_open.synced is_open.fits)) tt
    (λ not_fault is_open. open_unchanged ((returns-in-Err-append_batch-clause-refused g c).unchanged not_fault) is_open)

-- no slot has more than 16,777,216
pub append_batch-requires : goal.append_batch-requires
append_batch-requires g c =
    let store = c.args.self.now in
    let ranges = ranges_of store.shape store.in_range in
    let width : store.state.limits.width ≡ store.shape.slot - 19 = ap (λ (l : Limits). l.width) store.bounded in
    record {
      some = c.requires.some;
      short = c.requires.short;
      fits = omega (arith, c.requires.fits, store.slot);
      wide = omega (arith, store.slot, width, ranges.slot, ranges.slot_low);
      within = store.within;
    }

-- a slot has as many bytes as the limits say
pub invariant_of-self-in-Ok-append_batch-clause-slot : goal.invariant_of-self-in-Ok-append_batch-clause-slot
invariant_of-self-in-Ok-append_batch-clause-slot g c =
    let store = c.args.self.now in
    let state : c.prune.new.self ≡ fold store.state c.args.batch.now =
    c.prune.ensures ∙ c.accept.ensures ∙ c.in-Ok.ensures.after ∙ ap (λ (s : State). fold s c.args.batch.now) c.replace.ensures.value in
    let width : c.prune.new.self.limits.width ≡ store.state.limits.width = ap (λ (s : State). s.limits.width) state ∙ ap (λ (l : Limits). l.width) (fold-limits store.state c.args.batch.now) in
    c.append_batch.ensures.places.size ∙ store.slot ∙ ap (λ n. n + 19) (sym width)

-- the jobs stay
pub invariant_of-self-in-Ok-append_batch-clause-composable : goal.invariant_of-self-in-Ok-append_batch-clause-composable
invariant_of-self-in-Ok-append_batch-clause-composable g c = c.args.self.now.composable
