-- The jobs that a store keeps, from call to call.
use Rattle.std.proofs.Common.{◌≡◌, ℕ, ◌≤◌, true, false, Bool, List, [], ◌∷◌, filter, not, refl, sym, ◌∙◌, ap, subst, arith}
use Rattle.std.specs.Prelude.{◌==◌, All}
use Rattle.std.proofs.lemmas.Bool.{false≢true, eq-eqb}
use Rattle.std.proofs.lemmas.List.Elements.{All-nil, All-cons, All-head, All-tail, All-push, All-weaker}
use Rattle.revision.specs.Command.{Taken}
use Rattle.revision.specs.State.{State}
use Rattle.recovery.proofs.PutCells.{pair_other}
use Rattle.history.specs.Cell.{with_pair, Cell, Pair, cells_at}
use Rattle.history.specs.Shown.{Order, with_commands}
use Rattle.history.specs.Running.{IsCellAt, Runs}
use Rattle.history.proofs.CallerLemmas.{held_is_cell, cells_stay}
use Rattle.milestone.specs.Job.{Job, cell_of_job}
use Rattle.recovery.specs.Jobs.{without_job, with_job, highest, CanBePut, CanAllBePut, IsJobTo}

module _ {X : Type 0} (P : X → Type 0) (test : X → Bool) where
  first_of : (x : X) (xs : List X) (b : Bool) → test x ≡ b → P x → All P (filter test xs) → All P (filter test (x ∷ xs))
  first_of x xs true is has others = rw is (All-cons P x (filter test xs) has others)
  first_of x xs false is has others = rw is others

  -- what holds of all holds of those that pass a test
  pub all_passing : (xs : List X) → All P xs → All P (filter test xs)
  all_passing [] all = All-nil P
  all_passing (x ∷ xs) all = first_of x xs (test x) refl (All-head P x xs all) (all_passing xs (All-tail P x xs all))

-- the order grows
pub kept_later : (order : Order) (batch : List Taken) (cells : List Pair) (jobs : List Job) → CanAllBePut order cells jobs → CanAllBePut (with_commands order batch) cells jobs
kept_later order batch cells jobs kept =
    All-weaker (CanBePut order cells) (CanBePut (with_commands order batch) cells)
    (λ job is. record { is_cell = cells_stay order batch job.document (cell_of_job job) is.is_cell; not_below = is.not_below }) jobs kept

-- the job of a document is dropped
pub kept_without : (order : Order) (cells : List Pair) (document : ℕ) (jobs : List Job) → CanAllBePut order cells jobs → CanAllBePut order cells (without_job document jobs)
kept_without order cells document jobs kept = all_passing (CanBePut order cells) (λ job. not (job.document == document)) jobs kept

-- a job is kept
pub kept_with : (order : Order) (cells : List Pair) (job : Job) (jobs : List Job) → CanBePut order cells job → CanAllBePut order cells jobs → CanAllBePut order cells (with_job job jobs)
kept_with order cells job jobs one kept = All-push (CanBePut order cells) (without_job job.document jobs) job (kept_without order cells job.document jobs kept) one

-- what is handed out can be kept
pub handed_out : (order : Order) (cells : List Pair) (entries : List Taken) (state : State) (document revision : ℕ) (job : Job) → Runs order cells entries state
    → IsJobTo state.documents document revision job → highest (cells_at cells document) ≤ revision → CanBePut order cells job
handed_out order cells entries state document revision job runs to above = record {
  is_cell = subst (λ n. IsCellAt order n (cell_of_job job)) (sym to.number)
      (subst (IsCellAt order document) (sym to.is) (held_is_cell order cells entries state document to.found revision runs to.there to.held to.first to.reached));
  not_below = subst (λ n. highest (cells_at cells n) ≤ job.revision) (sym to.number) (omega (arith, above, ap (λ (c : Cell). c.revision) to.is));
}

module _ {X : Type 0} (P Q : X → Type 0) (test : X → Bool) (to : (x : X) → test x ≡ true → P x → Q x) where
  next_of : (x : X) (xs : List X) (b : Bool) → test x ≡ b → P x → All Q (filter test xs) → All Q (filter test (x ∷ xs))
  next_of x xs true is has others = rw is (All-cons Q x (filter test xs) (to x is has) others)
  next_of x xs false is has others = rw is others

  -- what holds of all gives what holds of those that pass a test
  pub passing_have : (xs : List X) → All P xs → All Q (filter test xs)
  passing_have [] all = All-nil Q
  passing_have (x ∷ xs) all = next_of x xs (test x) refl (All-head P x xs all) (passing_have xs (All-tail P x xs all))

-- a document that passes the test is another one
other_document : (document other : ℕ) → not (other == document) ≡ true → document ≡ other → ⊥
other_document document other is same = false≢true (ap not (sym (eq-eqb other document (sym same))) ∙ is)

-- the cells of a document are others, and its job is dropped
pub kept_put : (order : Order) (cells : List Pair) (document : ℕ) (pair : Pair) (jobs : List Job) → CanAllBePut order cells jobs
    → CanAllBePut order (with_pair document pair cells) (without_job document jobs)
kept_put order cells document pair jobs kept =
    passing_have (CanBePut order cells) (CanBePut order (with_pair document pair cells)) (λ job. not (job.document == document))
    (λ job is has. record {
      is_cell = has.is_cell;
      not_below = subst (λ (p : Pair). highest p ≤ job.revision) (sym (pair_other document pair cells job.document (other_document document job.document is))) has.not_below;
    }) jobs kept
