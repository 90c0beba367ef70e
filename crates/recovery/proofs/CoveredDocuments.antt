-- What has become of each document while those that are marked in the oldest segment are covered, group by group.
use Rattle.std.proofs.Common.{◌≡◌, ◌≢◌, ◌⊎◌, inl, inr, ℕ, zero, suc, ◌≤◌, ◌<◌, true, false, Bool, None, List, [], ◌∷◌, filter, length, take, get_or, refl, sym, ◌∙◌, ap, subst, arith}
use Rattle.std.specs.Prelude.{slice_get, nat_lt, cond, Result, Ok, Err, IfOk, IfErr, IsErrOf}
use Rattle.std.proofs.lemmas.Bool.{false≢true, cases_Bool}
use Rattle.std.proofs.lemmas.List.{get_or_past}
use Rattle.std.proofs.lemmas.List.Sums.{length-filter, count_by-le-length}
use Rattle.std.proofs.lemmas.Option.{slice_get_past}
use Rattle.disk.specs.declared.device.Disk.{Ghosts}
use Rattle.refusal.specs.declared.Refusal.{Refusal}
use Rattle.refusal.specs.declared.Refusal.TheVariants.{StillNeeded, NoMemory}
use Rattle.revision.specs.State.{State, newest_revision}
use Rattle.history.specs.Cell.{Pair, cells_at}
use Rattle.milestone.specs.Job.{Job}
use Rattle.segments.specs.Numbers.{IsOldest}
use Rattle.segments.specs.Ring.{known_numbers}
use Rattle.recovery.specs.declared.group.Member.{Member}
use Rattle.recovery.specs.declared.store.Store.{Store}
use Rattle.recovery.specs.Jobs.{jobs_for, without_job}
use Rattle.recovery.specs.declared.marks.Mark.{Mark}
use Rattle.recovery.specs.Marks.{is_of, within_segment, greatest_marked}
use Rattle.recovery.specs.Open.{IsOpen, IsHalfFreed, IsLeft, IsRaised, AreBothNewest, ring_of, state_of, known_marks, kept_jobs}
use Rattle.recovery.specs.Unwritten.{IsUnchangedButJobs}
use Rattle.recovery.specs.steps.Freeing.{count_marked, IsGathered, AreCovered, AreCoveredTo, IsHalfCovered}
use Rattle.recovery.specs.steps.Group.{is_in, outside_jobs, IsGroupPut}
use Rattle.recovery.proofs.Covering.{low_or_above}
use Rattle.recovery.proofs.DroppedJobs.{outside_own, outside_other}
use Rattle.recovery.proofs.Newest.{still_parts}
use Rattle.recovery.proofs.OtherJobs.{own_stay, others_without, none_own}
use Rattle.recovery.proofs.Reaching.{marks_reached}
use Rattle.recovery.proofs.Refusals.{refusal_or}

-- no more are marked among the first documents than among all
pub count_to : (marked : List ℕ) (i : ℕ) → count_marked (take i marked) ≤ count_marked marked
count_to marked zero = omega arith
count_to [] (suc i) = omega arith
count_to (x ∷ xs) (suc i) = by_test (nat_lt 0 x) (count_to xs i)
  where
    by_test : (b : Bool) → count_marked (take i xs) ≤ count_marked xs
        → length (cond b (x ∷ filter (nat_lt 0) (take i xs)) (filter (nat_lt 0) (take i xs))) ≤ length (cond b (x ∷ filter (nat_lt 0) xs) (filter (nat_lt 0) xs))
    by_test true low = omega (arith, low)
    by_test false low = low

module _ {D : Type 0} {disk : Ghosts D} where
  -- no document was looked at
  pub covered_none : (marked : ℕ → ℕ) (store : Store D disk) (is_open : IsOpen store) → AreCoveredTo 0 marked store is_open store
  covered_none marked store is_open = record {
    goes_on = is_open;
    same_table = refl;
    spared = λ document low. (refl, refl);
    raised = λ document below some. absurd (omega (arith, below));
  }

  -- a group more is put
  module _ (marked : List ℕ) (from end : ℕ) (ms : List Member) (start mid new : Store D disk) (is_open : IsOpen start) (goes_on : from ≤ end)
      (so_far : AreCoveredTo from (λ n. get_or marked n 0) start is_open mid) (gathered : IsGathered marked from end ms mid)
      (state : state_of mid ≡ state_of start) (put : IsGroupPut ms mid so_far.goes_on new) (jobs : kept_jobs new ≡ outside_jobs ms (kept_jobs mid)) where
    left : (n : ℕ) → is_in ms n ≡ false → (from ≤ n) ⊎ (get_or marked n 0 ≡ 0) → IsLeft start is_open new put.goes_on n
    left n away which =
        let was = so_far.spared n which in (
          put.others n away ∙ was.0,
          ap (λ (l : List Job). jobs_for n l) jobs ∙ (outside_other ms n (kept_jobs mid) away ∙ was.1),
        )

    still : (n : ℕ) → is_in ms n ≡ false → n < from → 1 ≤ get_or marked n 0 → IsRaised start new put.goes_on n
    still n away below some =
        let was = so_far.raised n below some in (
          subst (AreBothNewest (state_of start) n) (sym (put.others n away)) was.0,
          ap (λ (l : List Job). jobs_for n l) jobs ∙ (outside_other ms n (kept_jobs mid) away ∙ was.1),
        )

    raised_now : (n : ℕ) → is_in ms n ≡ true → IsRaised start new put.goes_on n
    raised_now n own = (
      subst (λ (s : State). AreBothNewest s n (cells_at put.goes_on.cells n)) state (put.own n own),
      ap (λ (l : List Job). jobs_for n l) jobs ∙ outside_own ms n (kept_jobs mid) own,
    )

    pub covered_more : AreCoveredTo end (λ n. get_or marked n 0) start is_open new
    covered_more = record {
      goes_on = put.goes_on;
      same_table = put.same_table ∙ so_far.same_table;
      spared = spared;
      raised = λ n below some. elim (cases_Bool (is_in ms n)) [
        | inl own ↦ raised_now n own
        | inr away ↦ elim (low_or_above from n) [
          | inr before ↦ still n away before some
          | inl behind ↦ absurd (false≢true (sym away ∙ gathered.each n behind below some))
        ]
      ];
    }
      where
        spared : (n : ℕ) → (end ≤ n) ⊎ (get_or marked n 0 ≡ 0) → IsLeft start is_open new put.goes_on n
        spared n (inl past) = elim (cases_Bool (is_in ms n)) [
          | inr away ↦ left n away (inl (omega (arith, past, goes_on)))
          | inl own ↦ absurd (omega (arith, past, (gathered.only n own).1))
        ]
        spared n (inr none) = elim (cases_Bool (is_in ms n)) [
          | inr away ↦ left n away (inr none)
          | inl own ↦ absurd (omega (arith, none, (gathered.only n own).2))
        ]

  -- it was given up before a group, and the job of one document was dropped
  pub half_covered : (from : ℕ) (marked : ℕ → ℕ) (start mid new : Store D disk) (is_open : IsOpen start) (so_far : AreCoveredTo from marked start is_open mid)
      → (document : ℕ) → from ≤ document → 1 ≤ marked document → IsUnchangedButJobs mid new → (IsOpen mid → IsOpen new) → kept_jobs new ≡ without_job document (kept_jobs mid)
      → IsHalfCovered marked start is_open new
  half_covered from marked start mid new is_open so_far document behind needs same opens jobs = record {
    goes_on = now;
    same_table = parts.1 ∙ so_far.same_table;
    spared = λ n none. left n (apart n none) (inr none);
    under_way = document;
    needs = needs;
    own = ap (λ (l : List Pair). cells_at l document) parts.0 ∙ (so_far.spared document (inl behind)).0;
    dropped = ap (λ (l : List Job). jobs_for document l) jobs ∙ none_own document (kept_jobs mid);
    others = λ n differ some. elim (low_or_above from n) [
      | inl past ↦ inl (left n differ (inl past))
      | inr before ↦
          let was = so_far.raised n before some in
          inr (
            subst (AreBothNewest (state_of start) n) (sym (ap (λ (l : List Pair). cells_at l n) parts.0)) was.0,
            others_stay n differ ∙ was.1,
          )
    ];
  }
    where
      now : IsOpen new
      now = opens so_far.goes_on

      parts : (now.cells ≡ so_far.goes_on.cells) × (now.table ≡ so_far.goes_on.table)
      parts = still_parts mid new so_far.goes_on now same.device

      apart : (n : ℕ) → marked n ≡ 0 → n ≢ document
      apart n none is = omega (arith, none, needs, ap marked is)

      others_stay : (n : ℕ) → n ≢ document → jobs_for n (kept_jobs new) ≡ jobs_for n (kept_jobs mid)
      others_stay n differ =
          own_stay n document (kept_jobs mid) (kept_jobs new) differ
          (ap (λ (l : List Job). without_job document l) jobs ∙ others_without document document (kept_jobs mid) refl)

      left : (n : ℕ) → n ≢ document → (from ≤ n) ⊎ (marked n ≡ 0) → IsLeft start is_open new now n
      left n differ which =
          let was = so_far.spared n which in (
            ap (λ (l : List Pair). cells_at l n) parts.0 ∙ was.0,
            others_stay n differ ∙ was.1,
          )

  -- the jobs of documents that aren't marked stay
  pub jobs_more : (marked : List ℕ) (from end : ℕ) (ms : List Member) (start mid new : Store D disk) → IsGathered marked from end ms mid → kept_jobs new ≡ outside_jobs ms (kept_jobs mid)
      → (n : ℕ) → get_or marked n 0 ≡ 0 → jobs_for n (kept_jobs new) ≡ jobs_for n (kept_jobs mid)
  jobs_more marked from end ms start mid new gathered jobs n none = elim (cases_Bool (is_in ms n)) [
    | inl own ↦ absurd (omega (arith, none, (gathered.only n own).2))
    | inr away ↦ ap (λ (l : List Job). jobs_for n l) jobs ∙ outside_other ms n (kept_jobs mid) away
  ]

  pub jobs_without : (document : ℕ) (marked : ℕ → ℕ) (mid new : Store D disk) → 1 ≤ marked document → kept_jobs new ≡ without_job document (kept_jobs mid)
      → (n : ℕ) → marked n ≡ 0 → jobs_for n (kept_jobs new) ≡ jobs_for n (kept_jobs mid)
  jobs_without document marked mid new needs jobs n none =
      own_stay n document (kept_jobs mid) (kept_jobs new) (λ is. absurd (omega (arith, none, needs, ap marked is)))
      (ap (λ (l : List Job). without_job document l) jobs ∙ others_without document document (kept_jobs mid) refl)

  -- the table has what the marks of the oldest segment have
  pub table_all : (store : Store D disk) (is_open : IsOpen store) (slot segment : ℕ) (marked : List ℕ) → IsOldest (known_numbers (ring_of store)) slot segment
      → length marked ≡ length store.cells.items → ((n : ℕ) → n < length store.cells.items → get_or marked n 0 ≡ greatest_marked segment n (known_marks store))
      → (n : ℕ) → get_or marked n 0 ≡ greatest_marked segment n (known_marks store)
  table_all store is_open slot segment marked oldest count each n = elim (low_or_above (length store.cells.items) n) [
    | inr inside ↦ each n inside
    | inl past ↦
        let none : slice_get (state_of store).documents n ≡ None = slice_get_past (state_of store).documents n
        (omega (arith, past, is_open.cells_are.count, is_open.holds.laid_out.in_cells.count, is_open.runs.pairs, is_open.runs.is_state.count)) in
        omega (arith, get_or_past marked n 0 (omega (arith, past, count)), marks_reached store is_open slot segment oldest n, ap newest_revision none)
  ]

  module _ (start new : Store D disk) (is_open : IsOpen start) (segment : ℕ) (marked : ℕ → ℕ)
      (all : (n : ℕ) → marked n ≡ greatest_marked segment n (known_marks start)) where
    -- given up, it is half done
    pub half_freed : (slot : ℕ) → IsOldest (known_numbers (ring_of start)) slot segment → IsHalfCovered marked start is_open new → IsHalfFreed start is_open new
    half_freed slot oldest half = record {
      goes_on = half.goes_on;
      same_table = half.same_table;
      slot = slot;
      segment = segment;
      oldest = oldest;
      spared = λ n none. half.spared n (omega (arith, all n, none));
      under_way = half.under_way;
      needs = λ none. omega (arith, none, half.needs, all half.under_way);
      own = half.own;
      dropped = half.dropped;
      others = λ n differ needed. half.others n differ (some n needed);
    }
      where
        some : (n : ℕ) → ¬ (greatest_marked segment n (known_marks start) ≡ 0) → 1 ≤ marked n
        some n needed = elim (low_or_above (marked n) 0) [
          | inr above ↦ above
          | inl low ↦ absurd (needed (omega (arith, low, all n)))
        ]

    -- after the last document all are covered
    pub all_covered : (bound : ℕ) → ((n : ℕ) → bound ≤ n → marked n ≡ 0) → AreCoveredTo bound marked start is_open new → AreCovered segment (known_marks start) start is_open new
    all_covered bound none_past covered = record {
      goes_on = covered.goes_on;
      same_table = covered.same_table;
      spared = λ n none. (covered.spared n (inr (omega (arith, all n, none)))).0;
      kept = λ n none. (covered.spared n (inr (omega (arith, all n, none)))).1;
      raised = λ n some. (covered.raised n (inside n some) (omega (arith, all n, some))).0;
      dropped = λ n some. (covered.raised n (inside n some) (omega (arith, all n, some))).1;
    }
      where
        inside : (n : ℕ) → 1 ≤ greatest_marked segment n (known_marks start) → n < bound
        inside n some = elim (low_or_above bound n) [
          | inr below ↦ below
          | inl past ↦ absurd (omega (arith, some, all n, none_past n past))
        ]

pub fewer_marks : (segment : ℕ) (marks : List Mark) → length (within_segment segment marks) ≤ length marks
fewer_marks segment marks = omega (arith, length-filter (is_of segment) marks, count_by-le-length (is_of segment) marks)

pub err_map : {A : Type 0} (P Q : Refusal → Type 0) (result : Result A Refusal) → ((e : Refusal) → P e → Q e) → IfErr result P → IfErr result Q
err_map P Q (Ok answer) implies has = tt
err_map P Q (Err refusal) implies has = implies refusal has

-- `NoMemory` isn't `StillNeeded`
pub memory_needs : {A : Type 0} (refusal : Refusal) → refusal ≡ NoMemory → IsErrOf {T = A} {E = Refusal} (Err refusal) StillNeeded → ⊥
memory_needs {A} refusal is told = let same : NoMemory ≡ StillNeeded = sym is ∙ ap (refusal_or {T = A} StillNeeded) told in cc

pub ok_map : {A E : Type 0} (P Q : A → Type 0) (result : Result A E) → ((v : A) → P v → Q v) → IfOk result P → IfOk result Q
ok_map P Q (Ok v) implies has = implies v has
ok_map P Q (Err fault) implies has = tt
