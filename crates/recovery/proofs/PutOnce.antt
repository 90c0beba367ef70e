-- Cells that are put once, of many documents at once: what a crash leaves, and what stands then.
use Rattle.std.proofs.Common.{◌≡◌, inl, inr, ℕ, ◌≤◌, ◌<◌, true, false, Bool, None, List, [], ◌∷◌, length, refl, sym, ◌∙◌, ap, subst, arith}
use Rattle.std.specs.Prelude.{◌==◌, ◌||◌, cond}
use Rattle.std.proofs.lemmas.Bool.{cases_eq, eq-eqb}
use Rattle.std.proofs.lemmas.Bool.Decides.{nat_tests}
use Rattle.std.proofs.lemmas.Option.{slice_get_within}
use Rattle.disk.specs.declared.device.Disk.{Ghosts}
use Rattle.disk.specs.Crash.{LeavesOnly}
use Rattle.disk.proofs.CallerLemmas.{leaves_map}
use Rattle.history.specs.Cell.{Cell, Pair, cells_at, freed}
use Rattle.history.specs.Running.{IsCellAt}
use Rattle.milestone.specs.declared.cells.Cells.{Cells}
use Rattle.milestone.specs.Cells.{Fits, with_cell}
use Rattle.milestone.specs.Job.{Job, cell_of_job}
use Rattle.milestone.specs.OneCell.{HoldsPair}
use Rattle.recovery.specs.declared.group.Member.{Member}
use Rattle.recovery.specs.declared.store.Store.{Store}
use Rattle.recovery.specs.Shape.{cells_place}
use Rattle.recovery.specs.Cells.{AreCellsOf}
use Rattle.recovery.specs.Found.{FoundAs}
use Rattle.recovery.specs.Jobs.{highest}
use Rattle.recovery.specs.Open.{IsOpen, device_of, state_of}
use Rattle.recovery.specs.PutJobs.{has_job, AreOfOneEach, with_put, with_all_put}
use Rattle.recovery.specs.steps.Group.{is_in, put_in, newest_in, MayBeReplaced, IsLeftTogether, Stand}
use Rattle.recovery.proofs.Members.{part_own, part_other}
use Rattle.recovery.proofs.Mixed.{MayStand, freed_may, replaced_may, found_together}
use Rattle.recovery.proofs.PutCells.{pair_own, pair_other, length_with_pair}
use Rattle.recovery.proofs.Together.{there, holds_here}

-- what comes of the first job of a document, and of one that has none an empty cell
abbrev pub cell_among : List Job → ℕ → Cell
cell_among [] number = newest_in None
cell_among (job ∷ jobs) number = cond (job.document == number) (cell_of_job job) (cell_among jobs number)

length_put : (job : Job) (cells : List Pair) → length (with_put job cells) ≡ length cells
length_put job cells = length_with_pair job.document (with_cell (cell_of_job job) (freed (cells_at cells job.document))) cells

pub length_all_put : (jobs : List Job) (cells : List Pair) → length (with_all_put jobs cells) ≡ length cells
length_all_put [] cells = refl
length_all_put (job ∷ jobs) cells = length_all_put jobs (with_put job cells) ∙ length_put job cells

-- the pair of a document once what comes of jobs of one document each is put
abbrev pub Put : List Job → List Pair → ℕ → Pair
Put jobs cells n = cond (has_job n jobs) (with_cell (cell_among jobs n) (freed (cells_at cells n))) (cells_at cells n)

pub all_put_at : (jobs : List Job) (cells : List Pair) (n : ℕ) → AreOfOneEach jobs → n < length cells → cells_at (with_all_put jobs cells) n ≡ Put jobs cells n
all_put_at [] cells n once inside = refl
all_put_at (job ∷ jobs) cells n once inside =
    let others : cells_at (with_all_put jobs (with_put job cells)) n ≡ Put jobs (with_put job cells) n = all_put_at jobs (with_put job cells) n once.1 (omega (arith, inside, length_put job cells)) in
    elim (cases_eq job.document n) [
      | inl same ↦
          let test : (job.document == n) ≡ true = eq-eqb job.document n same in
          let none : has_job n jobs ≡ false = sym (ap (λ k. has_job k jobs) same) ∙ once.0 in
          let here : cells_at (with_put job cells) n ≡ with_cell (cell_of_job job) (freed (cells_at cells n)) =
          subst (λ k. cells_at (with_put job cells) k ≡ with_cell (cell_of_job job) (freed (cells_at cells k))) same
          (pair_own job.document (with_cell (cell_of_job job) (freed (cells_at cells job.document))) cells (omega (arith, same, inside))) in
          others
          ∙ (ap (λ (b : Bool). cond b (with_cell (cell_among jobs n) (freed (cells_at (with_put job cells) n))) (cells_at (with_put job cells) n)) none
          ∙ (here ∙ sym (ap (λ (b : Bool). cond (b || has_job n jobs) (with_cell (cond b (cell_of_job job) (cell_among jobs n)) (freed (cells_at cells n))) (cells_at cells n)) test)))
      | inr apart ↦
          let test : (job.document == n) ≡ false = grind (arith, nat_tests) in
          let still : cells_at (with_put job cells) n ≡ cells_at cells n =
          pair_other job.document (with_cell (cell_of_job job) (freed (cells_at cells job.document))) cells n apart in
          others
          ∙ (ap (λ (p : Pair). cond (has_job n jobs) (with_cell (cell_among jobs n) (freed p)) p) still
          ∙ sym (ap (λ (b : Bool). cond (b || has_job n jobs) (with_cell (cond b (cell_of_job job) (cell_among jobs n)) (freed (cells_at cells n))) (cells_at cells n)) test))
    ]

module _ {D : Type 0} {disk : Ghosts D} (store : Store D disk) (is_open : IsOpen store) (ms : List Member) (put : ℕ → Cell)
    (are_cells : (n : ℕ) → is_in ms n ≡ true → IsCellAt is_open.order n (put n))
    (below : (n : ℕ) → is_in ms n ≡ true → highest (cells_at is_open.cells n) ≤ (put n).revision) where
  abbrev May : ℕ → Pair → Type 0
  May n pair = MayStand is_open.order (cells_at is_open.cells n) n pair

  abbrev replaced : ℕ → Pair
  replaced n = with_cell (put n) (freed (cells_at is_open.cells n))

  may_before : (n : ℕ) → May n (cells_at is_open.cells n)
  may_before n = (is_open.runs.cells_are n, omega arith)

  may_replaced : (n : ℕ) → is_in ms n ≡ true → May n (replaced n)
  may_replaced n is = replaced_may is_open.order (cells_at is_open.cells n) n (put n) (cells_at is_open.cells n) (are_cells n is) (below n is) (may_before n)

  -- what stands then
  pub may_once : (n : ℕ) → MayStand is_open.order (cells_at is_open.cells n) n (put_in ms put (λ k. cells_at is_open.cells k) n)
  may_once n = by_test (is_in ms n) refl
    where
      by_test : (b : Bool) → is_in ms n ≡ b → May n (put_in ms put (λ k. cells_at is_open.cells k) n)
      by_test true is = subst (May n) (sym (part_own ms replaced (λ k. cells_at is_open.cells k) n is)) (may_replaced n is)
      by_test false is = subst (May n) (sym (part_other ms replaced (λ k. cells_at is_open.cells k) n is)) (may_before n)

  -- and on the way there
  may_left : (n : ℕ) (pair : Pair) → n < store.shape.docs → MayBeReplaced ms put (λ k. cells_at is_open.cells k) n pair → May n pair
  may_left n pair inside (inl (inl same)) = subst (May n) (sym same) (may_before n)
  may_left n pair inside (inl (inr less)) = subst (May n) (sym less) (freed_may is_open.order (cells_at is_open.cells n) n (cells_at is_open.cells n) (may_before n))
  may_left n pair inside (inr one) = subst (May n) (sym one.1) (may_replaced n one.0)

  pub once_found : (now : D) → LeavesOnly disk (IsLeftTogether store.shape (disk.seen (device_of store)) (MayBeReplaced ms put (λ k. cells_at is_open.cells k))) (device_of store) now
      → LeavesOnly disk (λ content. FoundAs content (state_of store)) (device_of store) now
  once_found now left = leaves_map (found_together store is_open (MayBeReplaced ms put (λ k. cells_at is_open.cells k)) may_left) left

  -- a list of pairs that are these: what is known of the cells fits it, and the device holds it
  module _ (pairs : List Pair) (are : (n : ℕ) → n < store.shape.docs → cells_at pairs n ≡ put_in ms put (λ k. cells_at is_open.cells k) n)
      (later : List Cells) (content : List ℕ) (placed : AreCellsOf store.shape later) (stand : Stand (put_in ms put (λ k. cells_at is_open.cells k)) later content) where
    pub once_fit : Stand (λ n. cells_at pairs n) later content
    once_fit n one is = subst (Fits content one) (sym (are n (omega (arith, slice_get_within later n one is, placed.count)))) (stand n one is)

    pub once_hold : (n : ℕ) → n < store.shape.docs → HoldsPair (cells_place store.shape n) store.shape.cell n content (cells_at pairs n)
    once_hold n inside =
        let one = there later n (omega (arith, inside, placed.count)) in
        holds_here store.shape n one.0 (placed.each n one.0 one.1) content (cells_at pairs n) (once_fit n one.0 one.1).holds

    pub once_may : (n : ℕ) → n < store.shape.docs → MayStand is_open.order (cells_at is_open.cells n) n (cells_at pairs n)
    once_may n inside = subst (May n) (sym (are n inside)) (may_once n)
