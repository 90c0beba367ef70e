use Rattle.std.proofs.Common.{◌≡◌, ◌∙◌, ⊎_elim, inl, inr, true, false, List, length, sym, ap, subst, rules, arith}
use Rattle.std.proofs.lemmas.Bool.{false≢true}
use Rattle.std.proofs.lemmas.Result.{IfOk-weaker, IfErr-weaker}
use Rattle.revision.specs.State.{State, fold, all_grow}
use Rattle.journal.specs.BatchSpelling.{batch_width}
use Rattle.segments.specs.declared.ring.Ring.{Ring}
use Rattle.segments.specs.Room.{has_room_for}
use Rattle.milestone.specs.Job.{Job}
use Rattle.recovery.specs.declared.marks.Mark.{Mark}
use Rattle.recovery.specs.Commit.{MayBeCommitted, IsReceiptOf, IsCommitted, IsCommitRefused}
use Rattle.recovery.specs.Found.{FoundAs}
use Rattle.recovery.specs.Freed.{IsUncommitted}
use Rattle.recovery.specs.Goes.{Goes}
use Rattle.recovery.specs.Open.{IsWithOrWithout, has_room}
use Rattle.recovery.proofs.Committing.{kept_by_commit, refused_goes}
use Rattle.recovery.proofs.Going.{goes_map, goes_on}
use Rattle.recovery.proofs.Faults.{faults_on}
use Rattle.recovery.proofs.Covering.{freed_still}
use Rattle.recovery.proofs.Freed.{no_needed, no_stranger_freed, not_full, of_commit, of_freeing, keeps_others_same, costs_few, costs_more, costs_on}
use Rattle.recovery.proofs.FullGroups.{syncs_few, syncs_more, syncs_on}
use Rattle.recovery.proofs.Refusals.{full_no_fault, memory_no_fault, no_fault, on_ok_from}
use Rattle.recovery.proofs.Rooms.{freed_up, few_up}
use Rattle.recovery.proofs.SparedJobs.{spared_then}
use Rattle.recovery.proofs.store.Store.commit_freeing.Goals as goal

-- there was room
pub returns-then-has_room-clause-receipt : goal.returns-then-has_room-clause-receipt
returns-then-has_room-clause-receipt g c =
    IfOk-weaker c.commit.result (λ r. IsCommitted r c.args.batch.now c.args.self.now c.commit.new.self) (λ r. IsReceiptOf r c.args.batch.now c.commit.new.self)
    (λ r done. done.handed_out) c.commit.ensures.committed

pub returns-then-has_room-clause-committed : goal.returns-then-has_room-clause-committed
returns-then-has_room-clause-committed g c =
    let room : has_room c.args.self.now c.args.batch.now ≡ true = search rules in
    on_ok_from (λ r. IsCommitted r c.args.batch.now c.args.self.now c.commit.new.self) c.commit.result
    (λ receipt done. record {
      grow = done.grow;
      state = done.state;
      now = λ there is_open. done.now is_open;
      behind = λ none is_open. absurd (false≢true (sym none ∙ room));
      marks = done.marks;
    }) c.commit.ensures.committed

pub returns-then-has_room-clause-refused : goal.returns-then-has_room-clause-refused
returns-then-has_room-clause-refused g c =
    let store = c.args.self.now in
    let batch = c.args.batch.now in
    let room : has_room store batch ≡ true = search rules in
    IfErr-weaker c.commit.result (λ r. IsCommitRefused r batch store c.commit.new.self) (λ r. IsUncommitted r batch store c.commit.new.self)
    (λ r left. record {
      only = of_commit r left.only;
      state = left.state;
      marks = omega (arith, ap (λ (l : List Mark). length l) left.marks);
      same_marks = λ there. left.marks;
      full = λ told. absurd (false≢true (sym (left.full told) ∙ room));
      needed = λ told. absurd (no_needed r left.only told);
      spent = λ told is_open. ⊎_elim (λ full. absurd (false≢true (sym (left.full full) ∙ room))) (λ needed. absurd (no_needed r left.only needed)) told;
      stranger = left.stranger;
      memory = λ told. (λ there. (left.memory told).1, refused_goes (memory_no_fault told) left);
      unchanged = λ told there. left.unchanged (no_fault r told);
      behind = λ told none. absurd (false≢true (sym none ∙ room));
    }) c.commit.ensures.refused

pub returns-then-has_room-clause-plain : goal.returns-then-has_room-clause-plain
returns-then-has_room-clause-plain g c room =
    let e = c.commit.ensures in
    let kept = kept_by_commit c.args.batch.now c.args.self.now c.commit.new.self c.commit.result e.committed e.refused in
    record { jobs = kept.0; cells = kept.1; calls = e.costs.in_all.calls; calls_where_it_fits = λ fits. (e.costs.where_it_fits fits).calls }

pub returns-then-has_room-clause-others : goal.returns-then-has_room-clause-others
returns-then-has_room-clause-others g c =
    keeps_others_same c.args.self.now c.commit.new.self (kept_by_commit c.args.batch.now c.args.self.now c.commit.new.self c.commit.result c.commit.ensures.committed c.commit.ensures.refused).0

pub returns-then-has_room-clause-costs : goal.returns-then-has_room-clause-costs
returns-then-has_room-clause-costs g c =
    let most = c.commit.ensures.costs.in_all in
    record {
      calls = costs_few 10 c.args.self.now c.commit.new.self (omega (arith, most.calls));
      syncs = syncs_few 6 c.args.self.now c.commit.new.self (omega (arith, most.syncs));
    }

-- no segment could be freed
pub returns-in-Err-clause-refused : goal.returns-in-Err-clause-refused
returns-in-Err-clause-refused g c =
    let store = c.args.self.now in
    let none : has_room store c.args.batch.now ≡ false = search rules in
    let left = c.in-Err.ensures.refused in
    record {
      only = of_freeing c.in-Err.refusal left.only;
      state = c.free_oldest.ensures.state;
      marks = c.free_oldest.ensures.no_more_marks;
      same_marks = λ room. left.marks;
      full = λ told. absurd (not_full c.in-Err.refusal left.only told);
      needed = λ told. (none, left.ring, left.marks, left.needed told);
      spent = λ told is_open.
          ⊎_elim (λ full. absurd (not_full c.in-Err.refusal left.only full))
          (λ needed. few_up store (batch_width c.args.batch.now) is_open none (left.needed needed is_open).0) told;
      stranger = λ told. absurd (no_stranger_freed c.in-Err.refusal left.only told);
      memory = λ told. (λ room. absurd (false≢true (sym none ∙ room)), c.free_oldest.ensures.goes);
      unchanged = λ told room. absurd (false≢true (sym none ∙ room));
      behind = λ told there is_open.
          ⊎_elim (λ strange. absurd (no_stranger_freed c.in-Err.refusal left.only strange)) (λ memory. inr (memory, left.half memory is_open)) told;
    }

pub returns-in-Err-clause-plain : goal.returns-in-Err-clause-plain
returns-in-Err-clause-plain g c room =
    let none : has_room c.args.self.now c.args.batch.now ≡ false = search rules in
    absurd (false≢true (sym none ∙ room))

pub returns-in-Err-clause-costs : goal.returns-in-Err-clause-costs
returns-in-Err-clause-costs g c =
    let costs = c.free_oldest.ensures.costs in
    let syncs = c.free_oldest.ensures.syncs in
    record {
      calls = costs_more 2 10 c.args.self.now c.free_oldest.new.self (omega arith) costs;
      syncs = syncs_more 2 6 c.args.self.now c.free_oldest.new.self (omega arith) syncs;
    }

pub returns-in-Err-clause-goes : goal.returns-in-Err-clause-goes
returns-in-Err-clause-goes g c = goes_map (λ content found. inl found) c.free_oldest.ensures.goes

-- freeing leaves the documents, so the batch may be committed still
pub commit-requires-2 : goal.commit-requires-2
commit-requires-2 g c = subst (λ (s : State). MayBeCommitted s c.args.batch.now c.args.made.now) (sym c.free_oldest.ensures.state) c.requires

-- it was freed, and the batch is committed
pub returns-clause-faults : goal.returns-clause-faults
returns-clause-faults g c = faults_on c.in_default.field-0 c.commit-2.result c.in_default.ensures.faults c.commit-2.ensures.faults

pub returns-clause-receipt : goal.returns-clause-receipt
returns-clause-receipt g c =
    IfOk-weaker c.commit-2.result (λ r. IsCommitted r c.args.batch.now c.free_oldest.new.self c.commit-2.new.self) (λ r. IsReceiptOf r c.args.batch.now c.commit-2.new.self)
    (λ r done. done.handed_out) c.commit-2.ensures.committed

pub returns-clause-committed : goal.returns-clause-committed
returns-clause-committed g c =
    let batch = c.args.batch.now in
    let mid = c.free_oldest.new.self in
    let none : has_room c.args.self.now batch ≡ false = search rules in
    let freed = c.in_default.ensures.freed in
    on_ok_from (λ r. IsCommitted r batch mid c.commit-2.new.self) c.commit-2.result
    (λ receipt done. record {
      grow = subst (λ (s : State). all_grow s batch ≡ true) c.free_oldest.ensures.state done.grow;
      state = done.state ∙ ap (λ (s : State). fold s batch) c.free_oldest.ensures.state;
      now = λ room is_open. absurd (false≢true (sym none ∙ room));
      behind = λ there is_open.
          let now = freed.now is_open in
          record { mid = mid; freed = now; committed = done.now now.goes_on };
      marks = omega (arith, done.marks, c.free_oldest.ensures.no_more_marks);
    }) c.commit-2.ensures.committed

pub returns-clause-refused : goal.returns-clause-refused
returns-clause-refused g c =
    let store = c.args.self.now in
    let mid = c.free_oldest.new.self in
    let new = c.commit-2.new.self in
    let batch = c.args.batch.now in
    let none : has_room store batch ≡ false = search rules in
    let freed = c.in_default.ensures.freed in
    IfErr-weaker c.commit-2.result (λ r. IsCommitRefused r batch mid new) (λ r. IsUncommitted r batch store new)
    (λ r left. record {
      only = of_commit r left.only;
      state = left.state ∙ c.free_oldest.ensures.state;
      marks = omega (arith, ap (λ (l : List Mark). length l) left.marks, c.free_oldest.ensures.no_more_marks);
      same_marks = λ room. absurd (false≢true (sym none ∙ room));
      full = λ told.
          let same = left.unchanged (full_no_fault told) in (
            none,
            subst (λ (r : Ring). has_room_for r (batch_width batch) ≡ false) (sym same.ring) (left.full told),
            λ is_open. freed_still store mid new is_open same (freed.now is_open),
          );
      needed = λ told. absurd (no_needed r left.only told);
      spent = λ told is_open.
          ⊎_elim (λ full. freed_up store mid (batch_width batch) is_open (freed.now is_open) (left.full full)) (λ needed. absurd (no_needed r left.only needed)) told;
      stranger = λ told. subst (λ (s : State). all_grow s batch ≡ false) c.free_oldest.ensures.state (left.stranger told);
      memory = λ told. (
        λ room. absurd (false≢true (sym none ∙ room)),
        goes_on c.free_oldest.ensures.goes
            (subst (λ (s : State). Goes (λ content. FoundAs content s) mid new) c.free_oldest.ensures.state (refused_goes (memory_no_fault told) left)),
      );
      unchanged = λ told room. absurd (false≢true (sym none ∙ room));
      behind = λ told there is_open. inl (freed_still store mid new is_open (left.unchanged (no_fault r told)) (freed.now is_open));
    }) c.commit-2.ensures.refused

pub returns-clause-plain : goal.returns-clause-plain
returns-clause-plain g c room =
    let none : has_room c.args.self.now c.args.batch.now ≡ false = search rules in
    absurd (false≢true (sym none ∙ room))

pub returns-clause-others : goal.returns-clause-others
returns-clause-others g c =
    let jobs = (kept_by_commit c.args.batch.now c.free_oldest.new.self c.commit-2.new.self c.commit-2.result c.commit-2.ensures.committed c.commit-2.ensures.refused).0 in
    record {
      jobs = λ is_open slot segment oldest.
          spared_then segment c.args.self.now c.free_oldest.new.self c.commit-2.new.self (c.free_oldest.ensures.others.jobs is_open slot segment oldest) jobs;
      no_more = omega (arith, c.free_oldest.ensures.others.no_more, ap (λ (l : List Job). length l) jobs);
    }

pub returns-clause-costs : goal.returns-clause-costs
returns-clause-costs g c =
    let most = c.commit-2.ensures.costs.in_all in
    record {
      calls = costs_on 2 8 c.args.self.now c.free_oldest.new.self c.commit-2.new.self c.free_oldest.ensures.costs most.calls;
      syncs = syncs_on 2 4 c.args.self.now c.free_oldest.new.self c.commit-2.new.self c.free_oldest.ensures.syncs most.syncs;
    }

pub returns-clause-goes : goal.returns-clause-goes
returns-clause-goes g c =
    goes_on (goes_map (λ content found. inl found) c.free_oldest.ensures.goes)
    (subst (λ (s : State). Goes (IsWithOrWithout s c.args.batch.now) c.free_oldest.new.self c.commit-2.new.self) c.free_oldest.ensures.state c.commit-2.ensures.goes)
