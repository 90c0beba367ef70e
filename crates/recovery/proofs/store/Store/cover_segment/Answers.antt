use Rattle.std.proofs.Common.{◌≡◌, ◌≢◌, inr, ℕ, ◌<◌, List, length, get_or, refl, sym, ◌∙◌, ap, arith, rules}
use Rattle.std.specs.Prelude.{Ok, Err}
use Rattle.std.proofs.lemmas.List.{get_or_past}
use Rattle.refusal.specs.declared.Refusal.TheVariants.{Fault}
use Rattle.milestone.specs.Job.{Job}
use Rattle.recovery.specs.Freed.{bytes_below}
use Rattle.recovery.specs.Marks.{greatest_marked}
use Rattle.recovery.specs.Open.{IsOpen, IsHalfFreed, kept_jobs, known_marks, state_of}
use Rattle.recovery.specs.steps.Freeing.{IsHalfCovered, count_marked}
use Rattle.recovery.proofs.CellsAlone.{cells_still, cells_but_jobs}
use Rattle.recovery.proofs.CoveredDocuments.{covered_none, half_covered, half_freed, all_covered, table_all, jobs_without, fewer_marks, err_map, memory_needs}
use Rattle.recovery.proofs.Faults.{faults_none, faults_but_jobs, goes_but_jobs}
use Rattle.recovery.proofs.FullGroups.{bytes_same, by_none, by_same}
use Rattle.recovery.proofs.Gathered.{told_fault}
use Rattle.recovery.proofs.Going.{goes_nowhere}
use Rattle.recovery.proofs.OneRound.{if_ok}
use Rattle.recovery.proofs.OtherJobs.{fewer_without}
use Rattle.recovery.proofs.Reaching.{marks_reached}
use Rattle.recovery.proofs.Refusals.{ok≢err}
use Rattle.recovery.proofs.store.Store.cover_segment.Goals as goal

-- no document is marked
pub returns-in_default-clause-covered : goal.returns-in_default-clause-covered
returns-in_default-clause-covered g c is_open =
    let store = c.args.self.now in
    let none : (n : ℕ) → greatest_marked c.args.segment n (known_marks store) ≡ 0 = search rules in
    all_covered store store is_open c.args.segment (λ n. 0) (λ n. sym (none n)) 0 (λ n past. refl) (covered_none (λ n. 0) store is_open)

pub returns-in_default-clause-goes : goal.returns-in_default-clause-goes
returns-in_default-clause-goes g c = goes_nowhere c.args.self.now

pub returns-in_default-clause-faults : goal.returns-in_default-clause-faults
returns-in_default-clause-faults g c = faults_none c.args.self.now (Ok tt) c.requires.working (ok≢err tt Fault)

pub returns-in_default-clause-syncs : goal.returns-in_default-clause-syncs
returns-in_default-clause-syncs g c = (0, omega arith, by_none c.args.self.now)

pub returns-in_default-clause-outside : goal.returns-in_default-clause-outside
returns-in_default-clause-outside g c = cells_still c.args.self.now

-- the documents of the table are covered
pub returns-in-Ok-clause-needed : goal.returns-in-Ok-clause-needed
returns-in-Ok-clause-needed g c told is_open =
    let store = c.args.self.now in
    let marked : List ℕ = c.deref.result.now in
    let from = c.deref.ensures.value in
    let count : length marked ≡ length store.cells.items = ap (λ (l : List ℕ). length l) from ∙ c.in-Ok.ensures.count in
    let each = λ (k : ℕ) (below : k < length store.cells.items). ap (λ (l : List ℕ). get_or l k 0) from ∙ c.in-Ok.ensures.marked k below in
    c.cover_documents.ensures.needed told is_open
    (λ n. omega (
      arith,
      table_all store is_open c.requires.oldest.0 c.args.segment marked c.requires.oldest.1 count each n,
      marks_reached store is_open c.requires.oldest.0 c.args.segment c.requires.oldest.1 n,
    ))

pub returns-in-Ok-clause-covered : goal.returns-in-Ok-clause-covered
returns-in-Ok-clause-covered g c =
    let store = c.args.self.now in
    let marked : List ℕ = c.deref.result.now in
    let from = c.deref.ensures.value in
    let count : length marked ≡ length store.cells.items = ap (λ (l : List ℕ). length l) from ∙ c.in-Ok.ensures.count in
    let each = λ (k : ℕ) (below : k < length store.cells.items). ap (λ (l : List ℕ). get_or l k 0) from ∙ c.in-Ok.ensures.marked k below in
    if_ok c.cover_documents.result
    (λ covered is_open.
    all_covered store c.cover_documents.new.self is_open c.args.segment (λ n. get_or marked n 0)
    (table_all store is_open c.requires.oldest.0 c.args.segment marked c.requires.oldest.1 count each)
    (length marked) (λ n past. get_or_past marked n 0 past) (covered is_open)) c.cover_documents.ensures.covered

pub returns-in-Ok-clause-half : goal.returns-in-Ok-clause-half
returns-in-Ok-clause-half g c =
    let store = c.args.self.now in
    let new = c.cover_documents.new.self in
    let marked : List ℕ = c.deref.result.now in
    let from = c.deref.ensures.value in
    let count : length marked ≡ length store.cells.items = ap (λ (l : List ℕ). length l) from ∙ c.in-Ok.ensures.count in
    let each = λ (k : ℕ) (below : k < length store.cells.items). ap (λ (l : List ℕ). get_or l k 0) from ∙ c.in-Ok.ensures.marked k below in
    err_map (λ e. e ≢ Fault → (is_open : IsOpen store) → IsHalfCovered (λ n. get_or marked n 0) store is_open new) (λ e. e ≢ Fault → (is_open : IsOpen store) → IsHalfFreed store is_open new)
    c.cover_documents.result
    (λ e half other is_open.
    half_freed store new is_open c.args.segment (λ n. get_or marked n 0)
    (table_all store is_open c.requires.oldest.0 c.args.segment marked c.requires.oldest.1 count each)
    c.requires.oldest.0 c.requires.oldest.1 (half other is_open)) c.cover_documents.ensures.half

pub returns-in-Ok-clause-calls : goal.returns-in-Ok-clause-calls
returns-in-Ok-clause-calls g c = omega (arith, c.cover_documents.ensures.calls, c.in-Ok.ensures.few, ap (λ (l : List ℕ). count_marked l) c.deref.ensures.value)

pub returns-in-Ok-clause-syncs : goal.returns-in-Ok-clause-syncs
returns-in-Ok-clause-syncs g c =
    let store = c.args.self.now in
    let marked : List ℕ = c.deref.result.now in
    let from = c.deref.ensures.value in
    let count : length marked ≡ length store.cells.items = ap (λ (l : List ℕ). length l) from ∙ c.in-Ok.ensures.count in
    let each = λ (k : ℕ) (below : k < length store.cells.items). ap (λ (l : List ℕ). get_or l k 0) from ∙ c.in-Ok.ensures.marked k below in
    let syncs = c.cover_documents.ensures.syncs in
    let same = bytes_same (state_of store) (λ n. get_or marked n 0) (λ n. greatest_marked c.args.segment n (known_marks store)) (length store.cells.items) each in
    (syncs.0, omega (arith, syncs.1, same, ap (λ n. bytes_below (state_of store) (λ k. get_or marked k 0) n) count), syncs.2)

pub returns-in-Ok-clause-calls_by_marks : goal.returns-in-Ok-clause-calls_by_marks
returns-in-Ok-clause-calls_by_marks g c =
    omega (arith, c.cover_documents.ensures.calls, c.in-Ok.ensures.few, ap (λ (l : List ℕ). count_marked l) c.deref.ensures.value, fewer_marks c.args.segment (known_marks c.args.self.now))

pub returns-in-Ok-clause-jobs : goal.returns-in-Ok-clause-jobs
returns-in-Ok-clause-jobs g c is_open document none =
    let store = c.args.self.now in
    let marked : List ℕ = c.deref.result.now in
    let from = c.deref.ensures.value in
    let count : length marked ≡ length store.cells.items = ap (λ (l : List ℕ). length l) from ∙ c.in-Ok.ensures.count in
    let each = λ (k : ℕ) (below : k < length store.cells.items). ap (λ (l : List ℕ). get_or l k 0) from ∙ c.in-Ok.ensures.marked k below in
    c.cover_documents.ensures.jobs document
    (omega (arith, none, table_all store is_open c.requires.oldest.0 c.args.segment marked c.requires.oldest.1 count each document))

-- there was no memory for the table
pub returns-in-Err-clause-needed : goal.returns-in-Err-clause-needed
returns-in-Err-clause-needed g c told = absurd (memory_needs c.into.result c.into.ensures told)

pub returns-in-Err-clause-half : goal.returns-in-Err-clause-half
returns-in-Err-clause-half g c other is_open =
    let store = c.args.self.now in
    let new = c.drop_job.new.self in
    half_freed store new is_open c.args.segment (λ n. greatest_marked c.args.segment n (known_marks store)) (λ n. refl) c.requires.oldest.0 c.requires.oldest.1
    (half_covered 0 (λ n. greatest_marked c.args.segment n (known_marks store)) store store new is_open
    (covered_none (λ n. greatest_marked c.args.segment n (known_marks store)) store is_open) c.in-Some.first (omega arith) c.in-Some.ensures.some c.drop_job.ensures.same c.drop_job.ensures.open
    c.drop_job.ensures.jobs)

pub returns-in-Err-clause-calls : goal.returns-in-Err-clause-calls
returns-in-Err-clause-calls g c = omega (arith, ap (λ d. length (g.D.Disk.past d)) c.drop_job.ensures.same.device)

pub returns-in-Err-clause-syncs : goal.returns-in-Err-clause-syncs
returns-in-Err-clause-syncs g c = (0, omega arith, by_same 0 c.args.self.now c.args.self.now c.drop_job.new.self c.drop_job.ensures.same.device (by_none c.args.self.now))

pub returns-in-Err-clause-calls_by_marks : goal.returns-in-Err-clause-calls_by_marks
returns-in-Err-clause-calls_by_marks g c = omega (arith, ap (λ d. length (g.D.Disk.past d)) c.drop_job.ensures.same.device)

pub returns-in-Err-clause-keeps : goal.returns-in-Err-clause-keeps
returns-in-Err-clause-keeps g c = let same = c.drop_job.ensures.same in record { state = same.state; ring = same.ring; marks = same.marks }

pub returns-in-Err-clause-outside : goal.returns-in-Err-clause-outside
returns-in-Err-clause-outside g c =
    let store = c.args.self.now in
    cells_but_jobs store store c.drop_job.new.self (cells_still store) c.drop_job.ensures.same

pub returns-in-Err-clause-jobs : goal.returns-in-Err-clause-jobs
returns-in-Err-clause-jobs g c is_open document none =
    jobs_without c.in-Some.first (λ n. greatest_marked c.args.segment n (known_marks c.args.self.now)) c.args.self.now c.drop_job.new.self c.in-Some.ensures.some c.drop_job.ensures.jobs document none

pub returns-in-Err-clause-no_more_jobs : goal.returns-in-Err-clause-no_more_jobs
returns-in-Err-clause-no_more_jobs g c =
    omega (arith, ap (λ (l : List Job). length l) c.drop_job.ensures.jobs, fewer_without c.in-Some.first (kept_jobs c.args.self.now))

pub returns-in-Err-clause-faults : goal.returns-in-Err-clause-faults
returns-in-Err-clause-faults g c =
    let store = c.args.self.now in
    faults_but_jobs (Err c.into.result) store store c.drop_job.new.self c.requires.working c.drop_job.ensures.same
    (faults_none store (Err c.into.result) c.requires.working (told_fault c.into.result (inr c.into.ensures)))

pub returns-in-Err-clause-goes : goal.returns-in-Err-clause-goes
returns-in-Err-clause-goes g c = goes_but_jobs c.args.self.now c.drop_job.new.self c.drop_job.ensures.same c.drop_job.ensures.open
