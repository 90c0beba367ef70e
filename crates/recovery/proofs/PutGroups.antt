-- A group of milestones that is put: both cells of each of its documents hold it at its newest revision.
use Rattle.std.proofs.Common.{◌≡◌, ◌≢◌, inl, inr, ℕ, suc, ◌≤◌, ◌<◌, true, false, Bool, Some, List, [], ◌∷◌, length, not, ◌↔◌, refl, sym, ◌∙◌, ap, subst, arith}
use Rattle.std.specs.Prelude.{◌==◌, ◌||◌, slice_get, Ok, Err}
use Rattle.disk.specs.Calls.{CountsFaults}
use Rattle.disk.specs.Crash.{LeavesOnly}
use Rattle.disk.proofs.CallerLemmas.{leaves_map}
use Rattle.refusal.specs.declared.Refusal.TheVariants.{Fault}
use Rattle.std.proofs.lemmas.Bool.{cases_eq, false≢true}
use Rattle.std.proofs.lemmas.Bool.Decides.{nat_tests}
use Rattle.std.proofs.lemmas.Option.{slice_get_within}
use Rattle.disk.specs.declared.device.Disk.{Ghosts}
use Rattle.revision.specs.State.{DocumentRecord, revision_of}
use Rattle.history.specs.Cell.{Cell, Pair, cells_at, freed}
use Rattle.history.specs.Running.{IsCellAt}
use Rattle.history.proofs.CallerLemmas.{held_is_cell}
use Rattle.milestone.specs.CellSpelling.{cell_body}
use Rattle.milestone.specs.declared.cells.Cells.{Cells}
use Rattle.milestone.specs.Cells.{Fits, with_cell}
use Rattle.recovery.specs.declared.group.Member.{Member}
use Rattle.recovery.specs.declared.store.Store.{Store}
use Rattle.milestone.specs.OneCell.{HoldsPair}
use Rattle.recovery.specs.Shape.{cells_place}
use Rattle.recovery.specs.Cells.{AreCellsOf}
use Rattle.recovery.specs.Faults.{FailsAtFaults}
use Rattle.recovery.specs.Found.{FoundAs, commands_of}
use Rattle.recovery.specs.Jobs.{highest, CanBePut, CanAllBePut}
use Rattle.recovery.specs.Open.{IsOpen, AreBothNewest, newest_cell, device_of, state_of, has_failed, known_cells, kept_jobs}
use Rattle.recovery.specs.steps.Group.{is_in, part, put_in, newest_in, newest_at, outside_jobs, Each, Spells, AreSpelled, Stand, StandTogether, HasPlaces, MayBeReplaced, MayBeTwice, IsLeftTogether, IsNewestOf, IsGroup, IsGroupPut}
use Rattle.recovery.proofs.Covering.{low_or_above}
use Rattle.recovery.proofs.KeptJobs.{passing_have}
use Rattle.recovery.proofs.Members.{part_own, part_other}
use Rattle.recovery.proofs.Mixed.{MayStand, Chosen, chosen, cells_past, freed_may, replaced_may, replaced_below, found_together}
use Rattle.recovery.proofs.Newest.{put_twice, newest_already}
use Rattle.recovery.proofs.Refusals.{ok≢err}
use Rattle.recovery.proofs.Retirement.{known_highest}
use Rattle.recovery.proofs.Together.{there, holds_here}
pub use Rattle.journal.proofs.CallerLemmas.{length-frame as length-framed}

-- the member of a document that is among them
pub member_of : (ms : List Member) (n : ℕ) (P : Member → Type 0) → Each ms P → is_in ms n ≡ true → (m : Member) × (m.document ≡ n) × P m
member_of [] n P each is = absurd (false≢true is)
member_of (first ∷ others) n P each is = elim (cases_eq first.document n) [
  | inl same ↦ (first, same, each 0 first (omega arith) refl)
  | inr apart ↦
      let away : (first.document == n) ≡ false = grind (arith, nat_tests) in
      member_of others n P (λ k m inside at. each (suc k) m (omega (arith, inside)) at) (sym (ap (λ (b : Bool). b || is_in others n) away) ∙ is)
]

module _ {D : Type 0} {disk : Ghosts D} (store : Store D disk) (ms : List Member) (group : IsGroup ms store) where
  -- the members have their places
  pub group_places : HasPlaces ms (known_cells store) (length (disk.seen (device_of store)))
  group_places = record {
    shape = store.shape;
    placed = store.placed;
    within = omega (arith, store.long);
    inside = λ k m inside is. omega (arith, (group.newest k m inside is).inside, store.placed.count);
    short = λ k m inside is.
        let spells = (group.newest k m inside is).spells in
        omega (arith, spells.fits, ap (λ (l : List ℕ). length l) spells.bytes, length-framed (cell_body m.document (newest_cell (group.newest k m inside is).found)));
  }

  put : ℕ → Cell
  put n = newest_at (state_of store) n

  pub group_spelled : AreSpelled store.shape (λ n. newest_at (state_of store) n) ms
  group_spelled k m inside is =
      let newest = group.newest k m inside is in
      subst (λ (c : Cell). Spells store.shape c m) (sym (ap newest_in newest.there)) newest.spells

  -- a document of the group
  pub record IsOwn (n : ℕ) : Type 0 where
    pub found : DocumentRecord
    pub there : slice_get (state_of store).documents n ≡ Some found
    pub first : 1 ≤ revision_of found
    pub not_below : (is_open : IsOpen store) → highest (cells_at is_open.cells n) ≤ revision_of found
    pub inside : n < store.shape.docs

  pub own_of : (n : ℕ) → is_in ms n ≡ true → IsOwn n
  own_of n is =
      let one = member_of ms n (IsNewestOf store) group.newest is in
      let newest = one.2 in
      subst IsOwn one.1 (record {
        found = newest.found;
        there = newest.there;
        first = newest.first;
        not_below = λ is_open. omega (arith, newest.not_below, known_highest store is_open one.0.document);
        inside = omega (arith, newest.inside, store.placed.count);
      })

  module _ (is_open : IsOpen store) where
    held : ℕ → Pair
    held n = cells_at is_open.cells n

    pub group_stands : StandTogether disk store.shape ms (λ n. cells_at is_open.cells n) (known_cells store) (device_of store)
    group_stands = record { distinct = group.distinct; placed = store.placed; synced = is_open.synced; stand = is_open.cells_fit }

    abbrev May : ℕ → Pair → Type 0
    May n pair = MayStand is_open.order (cells_at is_open.cells n) n pair

    newest_is : (n : ℕ) (own : IsOwn n) → newest_at (state_of store) n ≡ newest_cell own.found
    newest_is n own = ap newest_in own.there

    is_cell : (n : ℕ) → IsOwn n → IsCellAt is_open.order n (newest_at (state_of store) n)
    is_cell n own =
        subst (IsCellAt is_open.order n) (sym (newest_is n own))
        (held_is_cell is_open.order is_open.cells (commands_of is_open.batches) (state_of store) n own.found (revision_of own.found) is_open.runs own.there (omega arith) own.first (omega arith))

    below : (n : ℕ) → IsOwn n → highest (cells_at is_open.cells n) ≤ (newest_at (state_of store) n).revision
    below n own = omega (arith, own.not_below is_open, ap (λ (c : Cell). c.revision) (newest_is n own))

    -- what may be left of a document
    may_before : (n : ℕ) → May n (cells_at is_open.cells n)
    may_before n = (is_open.runs.cells_are n, omega arith)

    abbrev once : ℕ → Pair
    once = put_in ms (λ n. newest_at (state_of store) n) (λ n. cells_at is_open.cells n)

    abbrev twice : ℕ → Pair
    twice = put_in ms (λ n. newest_at (state_of store) n) once

    abbrev replaced : (ℕ → Pair) → ℕ → Pair
    replaced pairs n = with_cell (newest_at (state_of store) n) (freed (pairs n))

    once_own : (n : ℕ) → is_in ms n ≡ true → once n ≡ replaced (λ k. cells_at is_open.cells k) n
    once_own n is = part_own ms (replaced (λ k. cells_at is_open.cells k)) (λ k. cells_at is_open.cells k) n is

    may_once : (n : ℕ) → May n (once n)
    may_once n = by_test (is_in ms n) refl
      where
        by_test : (b : Bool) → is_in ms n ≡ b → May n (once n)
        by_test true is =
            subst (May n) (sym (once_own n is)) (replaced_may is_open.order (cells_at is_open.cells n) n (newest_at (state_of store) n) (cells_at is_open.cells n)
            (is_cell n (own_of n is)) (below n (own_of n is)) (may_before n))
        by_test false is = subst (May n) (sym (part_other ms (replaced (λ k. cells_at is_open.cells k)) (λ k. cells_at is_open.cells k) n is)) (may_before n)

    once_below : (n : ℕ) → is_in ms n ≡ true → highest (once n) ≤ (newest_at (state_of store) n).revision
    once_below n is =
        subst (λ (p : Pair). highest p ≤ (newest_at (state_of store) n).revision) (sym (once_own n is))
        (replaced_below (newest_at (state_of store) n) (cells_at is_open.cells n) (below n (own_of n is)))

    may_from : (pairs : ℕ → Pair) (n : ℕ) → May n (pairs n) → (is_in ms n ≡ true → highest (pairs n) ≤ (newest_at (state_of store) n).revision) → (pair : Pair)
        → MayBeReplaced ms (λ k. newest_at (state_of store) k) pairs n pair → May n pair
    may_from pairs n may low pair (inl (inl same)) = subst (May n) (sym same) may
    may_from pairs n may low pair (inl (inr less)) = subst (May n) (sym less) (freed_may is_open.order (cells_at is_open.cells n) n (pairs n) may)
    may_from pairs n may low pair (inr put) =
        subst (May n) (sym put.1) (replaced_may is_open.order (cells_at is_open.cells n) n (newest_at (state_of store) n) (pairs n) (is_cell n (own_of n put.0)) (low put.0) may)

    pub may_stand : (n : ℕ) (pair : Pair) → n < store.shape.docs → MayBeTwice ms (λ k. newest_at (state_of store) k) (λ k. cells_at is_open.cells k) n pair
        → MayStand is_open.order (cells_at is_open.cells n) n pair
    may_stand n pair inside (inl first) = may_from (λ k. cells_at is_open.cells k) n (may_before n) (λ is. below n (own_of n is)) pair first
    may_stand n pair inside (inr second) = may_from once n (may_once n) (once_below n) pair second

    may_twice : (n : ℕ) → May n (twice n)
    may_twice n = by_test (is_in ms n) refl
      where
        by_test : (b : Bool) → is_in ms n ≡ b → May n (twice n)
        by_test true is = may_from once n (may_once n) (once_below n) (twice n) (inr (is, part_own ms (replaced once) once n is))
        by_test false is = may_from once n (may_once n) (once_below n) (twice n) (inl (inl (part_other ms (replaced once) once n is)))

    -- both cells are the newest
    twice_both : (n : ℕ) (own : IsOwn n) → is_in ms n ≡ true → twice n ≡ (Some (newest_cell own.found), Some (newest_cell own.found))
    twice_both n own is =
        part_own ms (replaced once) once n is
        ∙ (ap (λ (p : Pair). with_cell (newest_at (state_of store) n) (freed p)) (once_own n is)
        ∙ (ap (λ (c : Cell). with_cell c (freed (with_cell c (freed (cells_at is_open.cells n))))) (newest_is n own)
        ∙ put_twice (newest_cell own.found) (cells_at is_open.cells n) (own.not_below is_open) (newest_already store is_open n own.found own.there own.first)))

    twice_other : (n : ℕ) → is_in ms n ≡ false → twice n ≡ cells_at is_open.cells n
    twice_other n is = part_other ms (replaced once) once n is ∙ part_other ms (replaced (λ k. cells_at is_open.cells k)) (λ k. cells_at is_open.cells k) n is

    -- the pairs behind it, as a list
    pub put_pairs : Chosen store.shape.docs (λ n pair. pair ≡ put_in ms (λ k. newest_at (state_of store) k) (put_in ms (λ k. newest_at (state_of store) k) (λ k. cells_at is_open.cells k)) n)
    put_pairs = chosen store.shape.docs (λ n pair. pair ≡ twice n) (λ n below. (twice n, refl))

    not_outside : (n : ℕ) → store.shape.docs ≤ n → is_in ms n ≡ true → ⊥
    not_outside n past is = omega (arith, past, (own_of n is).inside)

    pub pairs_other : (n : ℕ) → is_in ms n ≡ false → cells_at put_pairs.pairs n ≡ cells_at is_open.cells n
    pairs_other n away = elim (low_or_above store.shape.docs n) [
      | inr inside ↦ put_pairs.each n inside ∙ twice_other n away
      | inl past ↦
          cells_past put_pairs.pairs n (omega (arith, past, put_pairs.as_many))
          ∙ sym (cells_past is_open.cells n (omega (arith, past, is_open.holds.laid_out.in_cells.count)))
    ]

    pub pairs_own : (n : ℕ) → is_in ms n ≡ true → AreBothNewest (state_of store) n (cells_at put_pairs.pairs n)
    pairs_own n is =
        let own = own_of n is in
        record { found = own.found; there = own.there; both = put_pairs.each n own.inside ∙ twice_both n own is }

    pub pairs_may : (n : ℕ) → n < store.shape.docs → MayStand is_open.order (cells_at is_open.cells n) n (cells_at put_pairs.pairs n)
    pairs_may n inside = subst (May n) (sym (put_pairs.each n inside)) (may_twice n)

    -- the cells that are known hold them
    module _ (later : List Cells) (content : List ℕ) (are : AreCellsOf store.shape later)
        (stand : Stand (put_in ms (λ k. newest_at (state_of store) k) (put_in ms (λ k. newest_at (state_of store) k) (λ k. cells_at is_open.cells k))) later content) where
      pub pairs_fit : Stand (λ n. cells_at put_pairs.pairs n) later content
      pairs_fit n one is = subst (Fits content one) (sym (put_pairs.each n (omega (arith, slice_get_within later n one is, are.count)))) (stand n one is)

      pub pairs_hold : (n : ℕ) → n < store.shape.docs → HoldsPair (cells_place store.shape n) store.shape.cell n content (cells_at put_pairs.pairs n)
      pairs_hold n inside =
          let one = there later n (omega (arith, inside, are.count)) in
          holds_here store.shape n one.0 (are.each n one.0 one.1) content (cells_at put_pairs.pairs n) (pairs_fit n one.0 one.1).holds

    -- the jobs of other documents can still be put
    pub kept_outside : CanAllBePut is_open.order put_pairs.pairs (outside_jobs ms (kept_jobs store))
    kept_outside =
        passing_have (CanBePut is_open.order is_open.cells) (CanBePut is_open.order put_pairs.pairs) (λ job. not (is_in ms job.document))
        (λ job passes has. record {
          is_cell = has.is_cell;
          not_below = subst (λ (p : Pair). highest p ≤ job.revision) (sym (pairs_other job.document (off (is_in ms job.document) passes))) has.not_below;
        }) (kept_jobs store) is_open.kept
      where
        off : (b : Bool) → not b ≡ true → b ≡ false
        off true is = absurd (false≢true is)
        off false is = refl

    -- a crash meanwhile leaves the state
    pub group_found : (now : D) → LeavesOnly disk (IsLeftTogether store.shape (disk.seen (device_of store)) (MayBeTwice ms (λ k. newest_at (state_of store) k) (λ k. cells_at is_open.cells k))) (device_of store) now
        → LeavesOnly disk (λ content. FoundAs content (state_of store)) (device_of store) now
    group_found now left =
        leaves_map (found_together store is_open (MayBeTwice ms (λ k. newest_at (state_of store) k) (λ k. cells_at is_open.cells k)) may_stand) left

module _ {D : Type 0} {disk : Ghosts D} (store new : Store D disk) (works : has_failed store ≡ false) where
  -- its faults
  pub fault_here : {A E : Type 0} (fault : E) → has_failed new ≡ true → CountsFaults disk {A = A} (Err fault) (device_of store) (device_of new)
      → (disk.honest (device_of new) ↔ disk.honest (device_of store)) → FailsAtFaults {A = A} (Err Fault) store new
  fault_here fault failed counts honest = record {
    failed_before = λ was. absurd (false≢true (sym works ∙ was));
    fault = λ told unfailed. counts.failed;
    no_fault = λ other. absurd (other refl);
    good = tt;
    fails = λ unfailed. (λ is. refl, λ told. failed);
    works = tt;
    honest = honest;
  }

  pub good_here : {A : Type 0} (answer : A) → has_failed new ≡ false → disk.faults (device_of new) ≡ disk.faults (device_of store)
      → (disk.honest (device_of new) ↔ disk.honest (device_of store)) → FailsAtFaults (Ok answer) store new
  good_here answer unfailed good honest = record {
    failed_before = λ was. absurd (false≢true (sym works ∙ was));
    fault = λ told. absurd (ok≢err answer Fault told);
    no_fault = tt;
    good = good;
    fails = λ worked. (λ failed. absurd (false≢true (sym unfailed ∙ failed)), λ told. absurd (ok≢err answer Fault told));
    works = unfailed;
    honest = honest;
  }

-- no members
pub none_in : (ms : List Member) → length ms ≡ 0 → ms ≡ []
none_in [] none = refl
none_in (first ∷ others) none = absurd (omega (arith, none))

pub none_put : {D : Type 0} {disk : Ghosts D} (store : Store D disk) (ms : List Member) (is_open : IsOpen store) → ms ≡ [] → IsGroupPut ms store is_open store
none_put store ms is_open none = subst (λ (l : List Member). IsGroupPut l store is_open store) (sym none) (record {
  goes_on = is_open;
  same_table = refl;
  others = λ n away. refl;
  own = λ n own. absurd (false≢true own);
})
