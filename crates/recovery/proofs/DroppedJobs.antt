-- The kept jobs once those of a group's documents are dropped.
use Rattle.std.proofs.Common.{◌≡◌, inl, inr, ℕ, ◌+◌, ◌≤◌, ◌<◌, true, false, Bool, List, [], ◌∷◌, filter, length, take, get_or, not, refl, sym, ◌∙◌, ap, arith}
use Rattle.std.specs.Prelude.{◌==◌, ◌||◌, ◌&&◌}
use Rattle.std.proofs.lemmas.Bool.{cases_eq, eq-eqb}
use Rattle.std.proofs.lemmas.Bool.Decides.{nat_tests}
use Rattle.std.proofs.lemmas.List.Sums.{length-filter, count_by-le-length}
use Rattle.milestone.specs.Job.{Job}
use Rattle.recovery.specs.declared.group.Member.{Member}
use Rattle.recovery.specs.Jobs.{jobs_for, without_job}
use Rattle.recovery.specs.steps.Group.{is_in, outside_jobs}
use Rattle.recovery.proofs.Members.{in_more}

module _ {X : Type 0} (f g h : X → Bool) (is : (x : X) → h x ≡ (f x && g x)) where
  then_one : (x : X) (xs : List X) (a b : Bool) → f x ≡ a → g x ≡ b → filter g (filter f xs) ≡ filter h xs → filter g (filter f (x ∷ xs)) ≡ filter h (x ∷ xs)
  then_one x xs true true one other same =
      let all : h x ≡ true = is x ∙ (ap (λ (b : Bool). b && g x) one ∙ other) in
      rw one (rw other (rw all (ap (λ l. x ∷ l) same)))
  then_one x xs true false one other same =
      let all : h x ≡ false = is x ∙ (ap (λ (b : Bool). b && g x) one ∙ other) in
      rw one (rw other (rw all same))
  then_one x xs false b one other same =
      let all : h x ≡ false = is x ∙ ap (λ (c : Bool). c && g x) one in
      rw one (rw all same)

  -- what passes two tests, one after the other
  pub filter_then : (xs : List X) → filter g (filter f xs) ≡ filter h xs
  filter_then [] = refl
  filter_then (x ∷ xs) = then_one x xs (f x) (g x) refl refl (filter_then xs)

same_test : (x y : ℕ) → (x == y) ≡ (y == x)
same_test x y = elim (cases_eq x y) [
  | inl same ↦ eq-eqb x y same ∙ sym (eq-eqb y x (sym same))
  | inr apart ↦
      let one : (x == y) ≡ false = grind (arith, nat_tests) in
      let other : (y == x) ≡ false = grind (arith, nat_tests) in
      one ∙ sym other
]

by_or : (a b c : Bool) → b ≡ c → not (a || b) ≡ (not a && not c)
by_or true b c same = refl
by_or false b c same = ap not same

and_none : (a : Bool) → false ≡ (a && false)
and_none true = refl
and_none false = refl

none_pass : {X : Type 0} (xs : List X) → filter (λ (x : X). false) xs ≡ []
none_pass [] = refl
none_pass (x ∷ xs) = none_pass xs

-- none are dropped with no jobs
pub none_dropped : (jobs : List Job) → filter (λ (job : Job). true) jobs ≡ jobs
none_dropped [] = refl
none_dropped (job ∷ jobs) = ap (λ (l : List Job). job ∷ l) (none_dropped jobs)

pub outside_none : (jobs : List Job) → outside_jobs [] jobs ≡ jobs
outside_none [] = refl
outside_none (job ∷ jobs) = ap (λ (l : List Job). job ∷ l) (outside_none jobs)

pub outside_more : (ms : List Member) (k : ℕ) (m : Member) (jobs : List Job) → k < length ms → get_or ms k m ≡ m
    → without_job m.document (outside_jobs (take k ms) jobs) ≡ outside_jobs (take (k + 1) ms) jobs
outside_more ms k m jobs inside is =
    filter_then (λ (job : Job). not (is_in (take k ms) job.document)) (λ (job : Job). not (job.document == m.document)) (λ (job : Job). not (is_in (take (k + 1) ms) job.document))
    (λ job.
    ap not (in_more ms k m inside is job.document)
    ∙ by_or (is_in (take k ms) job.document) (m.document == job.document) (job.document == m.document) (same_test m.document job.document)) jobs

-- none is left of a document of the group
pub outside_own : (ms : List Member) (n : ℕ) (jobs : List Job) → is_in ms n ≡ true → jobs_for n (outside_jobs ms jobs) ≡ []
outside_own ms n jobs own =
    filter_then (λ (job : Job). not (is_in ms job.document)) (λ (job : Job). job.document == n) (λ (job : Job). false) none jobs ∙ none_pass jobs
  where
    none : (job : Job) → false ≡ (not (is_in ms job.document) && (job.document == n))
    none job = elim (cases_eq job.document n) [
      | inl same ↦ ap (λ (b : Bool). not b && (job.document == n)) (sym (ap (is_in ms) same ∙ own))
      | inr apart ↦
          let away : (job.document == n) ≡ false = grind (arith, nat_tests) in
          and_none (not (is_in ms job.document)) ∙ ap (λ (b : Bool). not (is_in ms job.document) && b) (sym away)
    ]

-- and all of another one
pub outside_other : (ms : List Member) (n : ℕ) (jobs : List Job) → is_in ms n ≡ false → jobs_for n (outside_jobs ms jobs) ≡ jobs_for n jobs
outside_other ms n jobs other =
    filter_then (λ (job : Job). not (is_in ms job.document)) (λ (job : Job). job.document == n) (λ (job : Job). job.document == n) all jobs
  where
    all : (job : Job) → (job.document == n) ≡ (not (is_in ms job.document) && (job.document == n))
    all job = elim (cases_eq job.document n) [
      | inl same ↦ ap (λ (b : Bool). not b && (job.document == n)) (sym (ap (is_in ms) same ∙ other))
      | inr apart ↦
          let away : (job.document == n) ≡ false = grind (arith, nat_tests) in
          away ∙ (and_none (not (is_in ms job.document)) ∙ ap (λ (b : Bool). not (is_in ms job.document) && b) (sym away))
    ]

pub fewer_outside : (ms : List Member) (jobs : List Job) → length (outside_jobs ms jobs) ≤ length jobs
fewer_outside ms jobs =
    omega (arith, length-filter (λ (job : Job). not (is_in ms job.document)) jobs, count_by-le-length (λ (job : Job). not (is_in ms job.document)) jobs)
