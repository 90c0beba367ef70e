-- Members that come of kept jobs.
use Rattle.std.proofs.Common.{◌≡◌, ◌≢◌, ◌⊎◌, inl, inr, ℕ, zero, suc, ◌+◌, ◌*◌, ◌≤◌, ◌<◌, true, false, Bool, Some, List, [], ◌∷◌, ◌++◌, filter, length, take, get_or, not, refl, sym, ◌∙◌, ap, subst, arith}
use Rattle.std.specs.Prelude.{◌==◌, ◌||◌, cond, slice_get, Contains, All}
use Rattle.std.proofs.lemmas.Bool.{cases_eq, false≢true, eq-eqb, not-true, or_parts}
use Rattle.std.proofs.lemmas.Bool.Decides.{nat_tests}
use Rattle.std.proofs.lemmas.List.{length-append}
use Rattle.std.proofs.lemmas.List.Elements.{All-nil, All-cons, All-head, All-tail, All-contains, Contains-append_left, Contains-append_right, Contains-push_cases}
use Rattle.disk.specs.declared.device.Disk.{Ghosts}
use Rattle.journal.specs.Area.{frame}
use Rattle.history.specs.Cell.{Cell, Pair, cells_at, freed}
use Rattle.history.specs.Running.{IsCellAt}
use Rattle.milestone.specs.CellSpelling.{IsCell, cell_body}
use Rattle.milestone.specs.Together.{HasRoom, framed_body}
use Rattle.milestone.specs.declared.cells.Cells.{Cells}
use Rattle.milestone.specs.Cells.{HasClosed, revisions_of, number_of, with_cell}
use Rattle.milestone.specs.Job.{Job, cell_of_job}
use Rattle.recovery.specs.declared.group.Member.{Member}
use Rattle.recovery.specs.declared.store.Store.{Store}
use Rattle.recovery.specs.Found.{limits_of}
use Rattle.recovery.specs.Freed.{most_bytes}
use Rattle.recovery.specs.Jobs.{highest, CanBePut, CanAllBePut, KeepsLimits}
use Rattle.recovery.specs.Open.{IsOpen, device_of, known_cells, kept_jobs}
use Rattle.recovery.specs.PutJobs.{has_job, without_jobs, with_all_put, AreOfOneEach, AreNotKept, ArePut, ArePutOf, CostsTogether, HaveRoom}
use Rattle.recovery.specs.steps.Freeing.{bytes_of, AreBounded}
use Rattle.recovery.specs.steps.Group.{is_in, put_in, outside_jobs, StandTogether, Each, AreDistinct, Spells, AreSpelled, HaveClosed, HasPlaces, IsMadeOfKept, AreKept}
use Rattle.recovery.proofs.Covering.{low_or_above}
use Rattle.recovery.proofs.DroppedJobs.{none_dropped}
use Rattle.recovery.proofs.FullGroups.{bounded_few, bounded_push}
use Rattle.recovery.proofs.Gathered.{each_push, distinct_push}
use Rattle.recovery.proofs.KeptJobs.{passing_have}
use Rattle.recovery.proofs.Members.{is_in_push, or_all}
use Rattle.recovery.proofs.Mixed.{cells_past}
use Rattle.recovery.proofs.OneRound.{costs_still, costs_wider}
use Rattle.recovery.proofs.PutGroups.{member_of, length-framed}
use Rattle.recovery.proofs.PutOnce.{cell_among, Put, all_put_at, length_all_put}
use Rattle.recovery.proofs.Putting.{its_cells, fits_cell}

-- the first, and those behind it
pub each_first : (first : Member) (others : List Member) (P : Member → Type 0) → Each (first ∷ others) P → P first
each_first first others P each = each 0 first (omega arith) refl

pub each_behind : (first : Member) (others : List Member) (P : Member → Type 0) → Each (first ∷ others) P → Each others P
each_behind first others P each k m inside is = each (suc k) m (omega (arith, inside)) is

pub distinct_behind : (first : Member) (others : List Member) → AreDistinct (first ∷ others) → AreDistinct others
distinct_behind first others distinct k m inside is = (or_parts (first.document == m.document) (is_in (take k others) m.document) (distinct (suc k) m (omega (arith, inside)) is)).1

same_filter : (f g : Job → Bool) (jobs : List Job) → ((job : Job) → f job ≡ g job) → filter f jobs ≡ filter g jobs
same_filter f g [] same = refl
same_filter f g (job ∷ jobs) same = ap (λ (b : Bool). cond b (job ∷ filter f jobs) (filter f jobs)) (same job) ∙ ap (λ (l : List Job). cond (g job) (job ∷ l) l) (same_filter f g jobs same)

module _ {D : Type 0} {disk : Ghosts D} (store : Store D disk) (composed : List Job) where
  -- the jobs that members come of
  abbrev pub jobs_put : (ms : List Member) → Each ms (IsMadeOfKept composed store) → List Job
  jobs_put [] made = []
  jobs_put (m ∷ ms) made = (each_first m ms (IsMadeOfKept composed store) made).job ∷ jobs_put ms (each_behind m ms (IsMadeOfKept composed store) made)

  pub same_documents : (n : ℕ) (ms : List Member) (made : Each ms (IsMadeOfKept composed store)) → has_job n (jobs_put ms made) ≡ is_in ms n
  same_documents n [] made = refl
  same_documents n (m ∷ ms) made =
      let one = each_first m ms (IsMadeOfKept composed store) made in
      let behind = each_behind m ms (IsMadeOfKept composed store) made in
      ap (λ (k : ℕ). (k == n) || has_job n (jobs_put ms behind)) (sym one.of) ∙ ap (λ (b : Bool). (m.document == n) || b) (same_documents n ms behind)

  pub put_among : (ms : List Member) (made : Each ms (IsMadeOfKept composed store)) → All (λ job. Contains composed job × Contains (kept_jobs store) job) (jobs_put ms made)
  put_among [] made = All-nil (λ job. Contains composed job × Contains (kept_jobs store) job)
  put_among (m ∷ ms) made =
      let one = each_first m ms (IsMadeOfKept composed store) made in
      let behind = each_behind m ms (IsMadeOfKept composed store) made in
      All-cons (λ job. Contains composed job × Contains (kept_jobs store) job) one.job (jobs_put ms behind) (one.among, one.kept) (put_among ms behind)

  -- a first one is of no later one's document
  away_behind : (first : Member) (others : List Member) → AreDistinct (first ∷ others) → is_in others first.document ≡ false
  away_behind first others distinct = by_test (is_in others first.document) refl
    where
      by_test : (b : Bool) → is_in others first.document ≡ b → is_in others first.document ≡ false
      by_test false is = is
      by_test true is =
          let one = member_of others first.document (λ m. m.document ≢ first.document)
          (λ k m inside at same.
          false≢true (sym (or_parts (first.document == m.document) (is_in (take k others) m.document) (distinct (suc k) m (omega (arith, inside)) at)).0 ∙ eq-eqb first.document m.document (sym same))) is in
          absurd (one.2 one.1)

  pub put_once : (ms : List Member) (made : Each ms (IsMadeOfKept composed store)) → AreDistinct ms → AreOfOneEach (jobs_put ms made)
  put_once [] made distinct = tt
  put_once (m ∷ ms) made distinct =
      let one = each_first m ms (IsMadeOfKept composed store) made in
      let behind = each_behind m ms (IsMadeOfKept composed store) made in (
        ap (λ k. has_job k (jobs_put ms behind)) (sym one.of) ∙ (same_documents m.document ms behind ∙ away_behind m ms distinct),
        put_once ms behind (distinct_behind m ms distinct),
      )

  -- what the members spell
  pub spelled_among : (ms : List Member) (made : Each ms (IsMadeOfKept composed store)) → AreDistinct ms → AreSpelled store.shape (λ n. cell_among (jobs_put ms made) n) ms
  spelled_among [] made distinct k m inside is = absurd (omega (arith, inside))
  spelled_among (first ∷ others) made distinct zero m inside is =
      let one = each_first first others (IsMadeOfKept composed store) made in
      let behind = each_behind first others (IsMadeOfKept composed store) made in
      let test : (one.job.document == first.document) ≡ true = eq-eqb one.job.document first.document (sym one.of) in
      let cell : cell_among (jobs_put (first ∷ others) made) first.document ≡ cell_of_job one.job =
      ap (λ (b : Bool). cond b (cell_of_job one.job) (cell_among (jobs_put others behind) first.document)) test in
      subst (λ (x : Member). Spells store.shape (cell_among (jobs_put (first ∷ others) made) x.document) x) is (subst (λ (c : Cell). Spells store.shape c first) (sym cell) one.spells)
  spelled_among (first ∷ others) made distinct (suc k) m inside is =
      let one = each_first first others (IsMadeOfKept composed store) made in
      let behind = each_behind first others (IsMadeOfKept composed store) made in
      let away = (or_parts (first.document == m.document) (is_in (take k others) m.document) (distinct (suc k) m inside is)).0 in
      let test : (one.job.document == m.document) ≡ false = ap (λ j. j == m.document) (sym one.of) ∙ away in
      let cell : cell_among (jobs_put (first ∷ others) made) m.document ≡ cell_among (jobs_put others behind) m.document =
      ap (λ (b : Bool). cond b (cell_of_job one.job) (cell_among (jobs_put others behind) m.document)) test in
      subst (λ (c : Cell). Spells store.shape c m) (sym cell) (spelled_among others behind (distinct_behind first others distinct) k m (omega (arith, inside)) is)

  -- a document of theirs has a kept job
  pub record HasKept (cell : Cell) (n : ℕ) : Type 0 where
    pub job : Job
    pub kept : Contains (kept_jobs store) job
    pub of : job.document ≡ n
    pub is : cell ≡ cell_of_job job

  pub kept_of : (ms : List Member) (made : Each ms (IsMadeOfKept composed store)) (n : ℕ) → is_in ms n ≡ true → HasKept (cell_among (jobs_put ms made) n) n
  kept_of [] made n is = absurd (false≢true is)
  kept_of (m ∷ ms) made n is = elim (cases_eq m.document n) [
    | inl same ↦
        let one = each_first m ms (IsMadeOfKept composed store) made in
        let behind = each_behind m ms (IsMadeOfKept composed store) made in
        record {
          job = one.job;
          kept = one.kept;
          of = sym one.of ∙ same;
          is = ap (λ (b : Bool). cond b (cell_of_job one.job) (cell_among (jobs_put ms behind) n)) (eq-eqb one.job.document n (sym one.of ∙ same));
        }
    | inr apart ↦
        let one = each_first m ms (IsMadeOfKept composed store) made in
        let behind = each_behind m ms (IsMadeOfKept composed store) made in
        let test : (m.document == n) ≡ false = grind (arith, nat_tests) in
        let later = kept_of ms behind n (sym (ap (λ (b : Bool). b || is_in ms n) test) ∙ is) in
        record {
          job = later.job;
          kept = later.kept;
          of = later.of;
          is = ap (λ (b : Bool). cond b (cell_of_job one.job) (cell_among (jobs_put ms behind) n)) (ap (λ j. j == n) (sym one.of) ∙ test) ∙ later.is;
        }
  ]

  module _ (ms : List Member) (are : AreKept composed ms store) where
    pub put_of : ArePutOf composed (kept_jobs store) (jobs_put ms are.made)
    put_of = record {
      among = put_among ms are.made;
      each = λ job given kept. same_documents job.document ms are.made ∙ are.all job given kept;
      once = put_once ms are.made are.distinct;
    }

    pub dropped_jobs : outside_jobs ms (kept_jobs store) ≡ without_jobs (jobs_put ms are.made) (kept_jobs store)
    dropped_jobs =
        same_filter (λ job. not (is_in ms job.document)) (λ job. not (has_job job.document (jobs_put ms are.made))) (kept_jobs store)
        (λ job. ap not (sym (same_documents job.document ms are.made)))

    -- their documents have cells
    inside_shape : (job : Job) → Contains (kept_jobs store) job → job.document < store.shape.docs
    inside_shape job kept = (All-contains (KeepsLimits (limits_of store.shape)) (kept_jobs store) job store.composable kept).inside

    pub kept_places : HasPlaces ms (known_cells store) (length (disk.seen (device_of store)))
    kept_places = record {
      shape = store.shape;
      placed = store.placed;
      within = omega (arith, store.long);
      inside = λ k m inside is. let one = are.made k m inside is in omega (arith, one.of, inside_shape one.job one.kept);
      short = λ k m inside is.
          let one = are.made k m inside is in
          omega (arith, one.spells.fits, ap (λ (l : List ℕ). length l) one.spells.bytes, length-framed (cell_body m.document (cell_of_job one.job)));
    }

    -- where each composed job's document has a closed cell, so has each member's
    pub room_closed : HaveRoom composed store → HaveClosed ms (known_cells store)
    room_closed room k m inside is one at =
        let made = are.made k m inside is in
        All-contains (λ job. (c : Cells) → slice_get (known_cells store) job.document ≡ Some c → HasClosed (revisions_of c)) composed made.job room made.among one
        (ap (λ n. slice_get (known_cells store) n) (sym made.of) ∙ at)

    module _ (is_open : IsOpen store) where
      can : (n : ℕ) (is : is_in ms n ≡ true) → CanBePut is_open.order is_open.cells (kept_of ms are.made n is).job
      can n is = let own = kept_of ms are.made n is in All-contains (CanBePut is_open.order is_open.cells) (kept_jobs store) own.job is_open.kept own.kept

      pub kept_cells : (n : ℕ) → is_in ms n ≡ true → IsCellAt is_open.order n (cell_among (jobs_put ms are.made) n)
      kept_cells n is =
          let own = kept_of ms are.made n is in
          subst (IsCellAt is_open.order n) (sym own.is) (subst (λ k. IsCellAt is_open.order k (cell_of_job own.job)) own.of (can n is).is_cell)

      pub kept_below : (n : ℕ) → is_in ms n ≡ true → highest (cells_at is_open.cells n) ≤ (cell_among (jobs_put ms are.made) n).revision
      kept_below n is =
          let own = kept_of ms are.made n is in
          omega (arith, (can n is).not_below, ap (λ k. highest (cells_at is_open.cells k)) own.of, ap (λ (c : Cell). c.revision) own.is)

      pub kept_stands : StandTogether disk store.shape ms (λ n. cells_at is_open.cells n) (known_cells store) (device_of store)
      kept_stands = record { distinct = are.distinct; placed = store.placed; synced = is_open.synced; stand = is_open.cells_fit }

      -- the pairs with what comes of the jobs
      at_each : (n : ℕ) → n < length is_open.cells → cells_at (with_all_put (jobs_put ms are.made) is_open.cells) n ≡ Put (jobs_put ms are.made) is_open.cells n
      at_each n inside = all_put_at (jobs_put ms are.made) is_open.cells n (put_once ms are.made are.distinct) inside

      pub kept_pairs : (n : ℕ) → n < store.shape.docs
          → cells_at (with_all_put (jobs_put ms are.made) is_open.cells) n ≡ put_in ms (λ k. cell_among (jobs_put ms are.made) k) (λ k. cells_at is_open.cells k) n
      kept_pairs n inside =
          at_each n (omega (arith, inside, is_open.holds.laid_out.in_cells.count))
          ∙ ap (λ (b : Bool). cond b (with_cell (cell_among (jobs_put ms are.made) n) (freed (cells_at is_open.cells n))) (cells_at is_open.cells n)) (same_documents n ms are.made)

      pub kept_away : (n : ℕ) → is_in ms n ≡ false → cells_at (with_all_put (jobs_put ms are.made) is_open.cells) n ≡ cells_at is_open.cells n
      kept_away n away = elim (low_or_above (length is_open.cells) n) [
        | inr inside ↦
            at_each n inside
            ∙ ap (λ (b : Bool). cond b (with_cell (cell_among (jobs_put ms are.made) n) (freed (cells_at is_open.cells n))) (cells_at is_open.cells n))
            (same_documents n ms are.made ∙ away)
        | inl past ↦
            cells_past (with_all_put (jobs_put ms are.made) is_open.cells) n (omega (arith, past, length_all_put (jobs_put ms are.made) is_open.cells))
            ∙ sym (cells_past is_open.cells n past)
      ]

      -- the other jobs can still be put
      pub kept_others : (pairs : List Pair) → ((n : ℕ) → is_in ms n ≡ false → cells_at pairs n ≡ cells_at is_open.cells n)
          → CanAllBePut is_open.order pairs (outside_jobs ms (kept_jobs store))
      kept_others pairs same =
          passing_have (CanBePut is_open.order is_open.cells) (CanBePut is_open.order pairs) (λ job. not (is_in ms job.document))
          (λ job passes has. record {
            is_cell = has.is_cell;
            not_below = subst (λ (p : Pair). highest p ≤ job.revision) (sym (same job.document (not-true (is_in ms job.document) passes))) has.not_below;
          }) (kept_jobs store) is_open.kept

  -- what a composed job that is kept comes to is spelled
  module _ (job : Job) (contains : Contains (kept_jobs store) job) (document : ℕ) (is : document ≡ job.document) (one : Cells) (read : one ≡ get_or store.cells.items document one) where
    pub kept_room : IsCell (number_of one) (cell_of_job job) → HasRoom one (cell_of_job job)
    kept_room is_one = record { is = is_one; fits = fits_cell store job contains document is one read is_one }

    pub kept_spells : IsCell (number_of one) (cell_of_job job) → (member : Member) → member.document ≡ document → member.revision ≡ job.revision
        → member.bytes.items ≡ framed_body one (cell_of_job job) → Spells store.shape (cell_of_job job) member
    kept_spells is_one member is_document is_revision bytes =
        let its = its_cells store job contains document is one read in
        let same : number_of one ≡ member.document = its.of ∙ (sym is ∙ sym is_document) in
        record {
          is = subst (λ n. IsCell n (cell_of_job job)) same is_one;
          fits = omega (arith, fits_cell store job contains document is one read is_one, its.size, ap (λ n. length (cell_body n (cell_of_job job))) same);
          bytes = bytes ∙ ap (λ n. frame (cell_body n (cell_of_job job))) same;
          revision = sym is_revision;
        }

-- as the composed jobs are looked at in turn
module _ {D : Type 0} {disk : Ghosts D} (store : Store D disk) where
  pub kept_none : AreKept [] [] store
  kept_none = record {
    distinct = λ k m inside is. absurd (omega (arith, inside));
    made = λ k m inside is. absurd (omega (arith, inside));
    all = λ job given kept. absurd (omega (arith, given.1));
  }

  -- no members put nothing
  pub nothing_put : (composed : List Job) → AreKept composed [] store → ArePut composed store store
  nothing_put composed are = record {
    put = [];
    are = record { among = All-nil (λ job. Contains composed job × Contains (kept_jobs store) job); each = are.all; once = tt };
    dropped = sym (none_dropped (kept_jobs store));
    now = λ is_open. record { goes_on = is_open; same_table = refl; cells = refl };
  }

  -- and there is none where no job is kept
  pub none_kept : (composed : List Job) (ms : List Member) → AreKept composed ms store → AreNotKept composed store → ms ≡ []
  none_kept composed [] are none = refl
  none_kept composed (m ∷ ms) are none = let made = are.made 0 m (omega arith) refl in absurd (none made.job made.among made.kept)

  made_wider : (given wider : List Job) → ((job : Job) → Contains given job → Contains wider job) → (m : Member) → IsMadeOfKept given store m → IsMadeOfKept wider store m
  made_wider given wider into m made = record { job = made.job; among = into made.job made.among; kept = made.kept; of = made.of; spells = made.spells }

  module _ (given : List Job) (job : Job) (ms : List Member) (are : AreKept given ms store) where
    before : Each ms (IsMadeOfKept (given ++ job ∷ []) store)
    before k m inside is = made_wider given (given ++ job ∷ []) (λ j. Contains-append_left given (job ∷ []) j) m (are.made k m inside is)

    -- one that isn't kept is passed, and one whose document is there
    pub kept_pass : (Contains (kept_jobs store) job → is_in ms job.document ≡ true) → AreKept (given ++ job ∷ []) ms store
    kept_pass passed = record {
      distinct = are.distinct;
      made = before;
      all = λ other mem kept. elim (Contains-push_cases given job other mem) [
        | inl first ↦ are.all other first kept
        | inr same ↦ subst (λ (j : Job). is_in ms j.document ≡ true) same (passed (subst (Contains (kept_jobs store)) (sym same) kept))
      ];
    }

    -- and what comes of another one comes to them
    pub kept_push : (m : Member) → is_in ms m.document ≡ false → m.document ≡ job.document → IsMadeOfKept (job ∷ []) store m → AreKept (given ++ job ∷ []) (ms ++ m ∷ []) store
    kept_push m away of made = record {
      distinct = distinct_push ms m are.distinct away;
      made = each_push ms m (IsMadeOfKept (given ++ job ∷ []) store) before
          (made_wider (job ∷ []) (given ++ job ∷ []) (λ j. Contains-append_right given (job ∷ []) j) m made);
      all = λ other mem kept. elim (Contains-push_cases given job other mem) [
        | inl first ↦ is_in_push ms m other.document ∙ ap (λ (b : Bool). b || (m.document == other.document)) (are.all other first kept)
        | inr same ↦
            is_in_push ms m other.document
            ∙ (ap (λ (b : Bool). is_in ms other.document || b) (eq-eqb m.document other.document (of ∙ ap (λ (j : Job). j.document) same)) ∙ or_all (is_in ms other.document))
      ];
    }

  -- a composed job was passed, or what comes of it was added
  abbrev pub IsAdded : Job → List Member → List Member → Type 0
  IsAdded job ms now =
      ((now ≡ ms) × (Contains (kept_jobs store) job → is_in ms job.document ≡ true))
      ⊎ ((m : Member) × (now ≡ ms ++ m ∷ []) × (is_in ms m.document ≡ false) × (m.document ≡ job.document) × IsMadeOfKept (job ∷ []) store m)

  pub kept_next : (given : List Job) (job : Job) (ms now : List Member) → AreKept given ms store → IsAdded job ms now → AreKept (given ++ job ∷ []) now store
  kept_next given job ms now are (inl (same, passed)) = subst (λ (l : List Member). AreKept (given ++ job ∷ []) l store) (sym same) (kept_pass given job ms are passed)
  kept_next given job ms now are (inr (m, more, away, of, made)) =
      subst (λ (l : List Member). AreKept (given ++ job ∷ []) l store) (sym more) (kept_push given job ms are m away of made)

  pub few_next : (job : Job) (ms now : List Member) (k : ℕ) → length ms ≤ k → IsAdded job ms now → length now ≤ k + 1
  few_next job ms now k few (inl (same, passed)) = omega (arith, few, ap (λ (l : List Member). length l) same)
  few_next job ms now k few (inr (m, more, away, of, made)) = omega (arith, few, ap (λ (l : List Member). length l) more, length-append ms (m ∷ []))

  pub bounded_next : (job : Job) (ms now : List Member) → bytes_of ms < most_bytes → IsAdded job ms now → AreBounded now
  bounded_next job ms now few (inl (same, passed)) = subst (λ (l : List Member). AreBounded l) (sym same) (bounded_few ms few)
  bounded_next job ms now few (inr (m, more, away, of, made)) = subst (λ (l : List Member). AreBounded l) (sym more) (bounded_push ms m few)

pub some_length : (n : ℕ) → (n ≡ 0) ⊎ (1 ≤ n)
some_length zero = inl refl
some_length (suc n) = inr (omega arith)

pub no_jobs : (jobs : List Job) → length jobs ≡ 0 → jobs ≡ []
no_jobs [] none = refl
no_jobs (job ∷ jobs) none = absurd (omega (arith, none))

taken_most : (n : ℕ) (jobs : List Job) → length (take n jobs) ≤ length jobs
taken_most zero jobs = omega arith
taken_most (suc n) [] = omega arith
taken_most (suc n) (job ∷ jobs) = omega (arith, taken_most n jobs)

taken_all : (P : Job → Type 0) (n : ℕ) (jobs : List Job) → All P jobs → All P (take n jobs)
taken_all P zero jobs all = All-nil P
taken_all P (suc n) [] all = All-nil P
taken_all P (suc n) (job ∷ jobs) all = All-cons P job (take n jobs) (All-head P job jobs all) (taken_all P n jobs (All-tail P job jobs all))

module _ {D : Type 0} {disk : Ghosts D} where
  -- what no call costs, and what the first jobs cost
  pub costs_together_none : (store : Store D disk) (composed : List Job) → CostsTogether composed store store
  costs_together_none store composed = record {
    all = costs_still disk (3 * length composed + 3) 3 store.device store.device refl;
    fewer = λ room. costs_still disk (2 * length composed + 2) 2 store.device store.device refl;
  }

  pub costs_longer : (old new : Store D disk) (composed : List Job) (n : ℕ) → CostsTogether (take n composed) old new → CostsTogether composed old new
  costs_longer old new composed n costs = record {
    all = costs_wider disk (3 * length (take n composed) + 3) (3 * length composed + 3) 3 3 old.device new.device (omega (arith, taken_most n composed)) (omega arith) costs.all;
    fewer = λ room.
        costs_wider disk (2 * length (take n composed) + 2) (2 * length composed + 2) 2 2 old.device new.device (omega (arith, taken_most n composed)) (omega arith)
        (costs.fewer (taken_all (λ job. (one : Cells) → slice_get (known_cells old) job.document ≡ Some one → HasClosed (revisions_of one)) n composed room));
  }
