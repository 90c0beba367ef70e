-- The kept jobs of other documents, where one of a document comes or goes.
use Rattle.std.proofs.Common.{◌≡◌, ◌≢◌, ℕ, ◌+◌, ◌≤◌, true, false, Bool, List, [], ◌∷◌, ◌++◌, filter, length, not, refl, sym, ◌∙◌, ap, arith}
use Rattle.std.specs.Prelude.{◌==◌}
use Rattle.std.proofs.lemmas.Bool.{false≢true, eq-eqb}
use Rattle.std.proofs.lemmas.Bool.Decides.{nat_tests}
use Rattle.std.proofs.lemmas.List.Sums.{length-filter, count_by-le-length}
use Rattle.milestone.specs.Job.{Job}
use Rattle.recovery.specs.Jobs.{without_job, jobs_for, with_job}

module _ {X : Type 0} (test : X → Bool) where
  pass_twice : (x : X) (xs : List X) (b : Bool) → test x ≡ b → filter test (filter test xs) ≡ filter test xs → filter test (filter test (x ∷ xs)) ≡ filter test (x ∷ xs)
  pass_twice x xs true is same = rw is (rw is (ap (λ l. x ∷ l) same))
  pass_twice x xs false is same = rw is same

  -- what passes a test passes it again
  pub twice : (xs : List X) → filter test (filter test xs) ≡ filter test xs
  twice [] = refl
  twice (x ∷ xs) = pass_twice x xs (test x) refl (twice xs)

  alone : (x : X) → test x ≡ false → filter test (x ∷ []) ≡ []
  alone x is = rw is refl

  push_on : (y x : X) (ys : List X) (b : Bool) → test y ≡ b → filter test (ys ++ x ∷ []) ≡ filter test ys → filter test (y ∷ ys ++ x ∷ []) ≡ filter test (y ∷ ys)
  push_on y x ys true is same = rw is (ap (λ l. y ∷ l) same)
  push_on y x ys false is same = rw is same

  -- one that doesn't pass makes no difference
  pub pushed : (x : X) → test x ≡ false → (ys : List X) → filter test (ys ++ x ∷ []) ≡ filter test ys
  pushed x fails [] = alone x fails
  pushed x fails (y ∷ ys) = push_on y x ys (test y) refl (pushed x fails ys)

-- the job of the document itself
own : (document : ℕ) (job : Job) → job.document ≡ document → not (job.document == document) ≡ false
own document job is = ap not (eq-eqb job.document document is)

-- a document's job goes
pub others_without : (document number : ℕ) (jobs : List Job) → number ≡ document → without_job document (without_job number jobs) ≡ without_job document jobs
others_without document number jobs is =
    ap (λ n. without_job document (without_job n jobs)) is ∙ twice (λ (other : Job). not (other.document == document)) jobs

-- a document's job comes
pub others_with : (document : ℕ) (job : Job) (jobs : List Job) → job.document ≡ document → without_job document (with_job job jobs) ≡ without_job document jobs
others_with document job jobs is =
    let test = λ (other : Job). not (other.document == document) in
    pushed test job (own document job is) (without_job job.document jobs) ∙ others_without document job.document jobs is

module _ {X : Type 0} (test wider : X → Bool) (implies : (x : X) → test x ≡ true → wider x ≡ true) where
  pass_wider : (x : X) (xs : List X) (a b : Bool) → test x ≡ a → wider x ≡ b → filter test (filter wider xs) ≡ filter test xs
      → filter test (filter wider (x ∷ xs)) ≡ filter test (x ∷ xs)
  pass_wider x xs true true is passes same = rw passes (rw is (ap (λ l. x ∷ l) same))
  pass_wider x xs false true is passes same = rw passes (rw is same)
  pass_wider x xs true false is passes same = absurd (false≢true (sym passes ∙ implies x is))
  pass_wider x xs false false is passes same = rw passes (rw is same)

  -- what passes a test is among those that pass a wider one
  pub among : (xs : List X) → filter test (filter wider xs) ≡ filter test xs
  among [] = refl
  among (x ∷ xs) = pass_wider x xs (test x) (wider x) refl refl (among xs)

-- a document's jobs are among those of documents other than another one
own_among : (document other : ℕ) (jobs : List Job) → document ≢ other → jobs_for document (without_job other jobs) ≡ jobs_for document jobs
own_among document other jobs apart =
    among (λ (job : Job). job.document == document) (λ (job : Job). not (job.document == other)) implies jobs
  where
    implies : (job : Job) → (job.document == document) ≡ true → not (job.document == other) ≡ true
    implies job is = let away : (job.document == other) ≡ false = grind (arith, nat_tests) in rw away refl

-- no job of a document is left where its jobs are dropped
pub none_own : (document : ℕ) (jobs : List Job) → jobs_for document (without_job document jobs) ≡ []
none_own document [] = refl
none_own document (first ∷ others) = by_test (first.document == document) refl (none_own document others)
  where
    by_test : (b : Bool) → (first.document == document) ≡ b → jobs_for document (without_job document others) ≡ []
        → jobs_for document (without_job document (first ∷ others)) ≡ []
    by_test true is none = rw is none
    by_test false is none = rw is (rw is none)

-- no more are left where those of a document go, and one more where one comes
pub fewer_without : (document : ℕ) (jobs : List Job) → length (without_job document jobs) ≤ length jobs
fewer_without document jobs =
    omega (arith, length-filter (λ (job : Job). not (job.document == document)) jobs, count_by-le-length (λ (job : Job). not (job.document == document)) jobs)

-- where the jobs stay of all documents but one, those of each other document do
pub own_stay : (document other : ℕ) (old new : List Job) → document ≢ other → without_job other new ≡ without_job other old → jobs_for document new ≡ jobs_for document old
own_stay document other old new apart same =
    sym (own_among document other new apart) ∙ ap (λ (l : List Job). jobs_for document l) same ∙ own_among document other old apart
