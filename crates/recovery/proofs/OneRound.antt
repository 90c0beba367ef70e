-- The three steps of a round, one after another, and one round after another.
use Rattle.std.proofs.Common.{◌≡◌, inl, inr, ℕ, ◌≤◌, true, false, Bool, Some, None, List, [], length, refl, sym, ◌∙◌, ap, subst, arith}
use Rattle.std.specs.Prelude.{nat_lt, cond, Result, Ok, Err, OnOk, OnErr}
use Rattle.std.proofs.lemmas.Bool.{cond_both}
use Rattle.disk.specs.declared.device.Disk.{Ghosts}
use Rattle.disk.specs.Calls.{CountsFaults}
use Rattle.disk.specs.Counted.{Costs, synced_moments}
use Rattle.disk.specs.Crash.{LeavesOnly, history_of}
use Rattle.disk.specs.Device.{Rose}
use Rattle.disk.proofs.CallerLemmas.{goes_on_run, leaves_map}
use Rattle.history.specs.Cell.{Cell, Pair, freed}
use Rattle.milestone.specs.declared.cells.Cells.{Cells}
use Rattle.milestone.specs.Cells.{Fits, HasClosed, with_cell}
use Rattle.milestone.specs.Revisions.{revisions_in}
use Rattle.recovery.specs.declared.group.Member.{Member}
use Rattle.recovery.specs.declared.shape.Shape.{Shape}
use Rattle.recovery.specs.steps.Group.{SameOutsideCells, IsLeftTogether, MayBePut, MayBeReplaced, Stand, AreHalf, HasPlaces, StandTogether, WriteCells, part, put_in, is_in}
use Rattle.recovery.proofs.Members.{part_own, part_other}
use Rattle.recovery.proofs.Together.{together_map, together_then}

-- one of two open cells is closed once the older one is
freed_closed : (pair : Pair) → HasClosed (revisions_in (freed pair))
freed_closed (None, second) = inl refl
freed_closed (Some first, None) = inr refl
freed_closed (Some first, Some second) =
    cond_both (nat_lt second.revision first.revision) (Some first, None) (None, Some second) (λ (p : Pair). HasClosed (revisions_in p)) (λ e. inr refl) (λ e. inl refl)

pub stand_same : (f g : ℕ → Pair) (known : List Cells) (content : List ℕ) → ((n : ℕ) → g n ≡ f n) → Stand f known content → Stand g known content
stand_same f g known content same stand n one is = subst (Fits content one) (sym (same n)) (stand n one is)

pub if_ok : {A E P Q : Type 0} (result : Result A E) → (P → Q) → OnOk result P → OnOk result Q
if_ok (Ok answer) implies has = implies has
if_ok (Err fault) implies has = tt

module _ (ms : List Member) (put : ℕ → Cell) (held : ℕ → Pair) where
  abbrev less : ℕ → Pair
  less = part ms (λ n. freed (held n)) held

  less_own : (n : ℕ) → is_in ms n ≡ true → less n ≡ freed (held n)
  less_own n is = part_own ms (λ k. freed (held k)) held n is

  pub closed_half : AreHalf ms (part ms (λ n. freed (held n)) held)
  closed_half n is = subst (λ (p : Pair). HasClosed (revisions_in p)) (sym (less_own n is)) (freed_closed (held n))

  pub less_may : (n : ℕ) (pair : Pair) → pair ≡ part ms (λ k. freed (held k)) held n → MayBeReplaced ms put held n pair
  less_may n pair same = by_test (is_in ms n) refl
    where
      by_test : (b : Bool) → is_in ms n ≡ b → MayBeReplaced ms put held n pair
      by_test true is = inl (inr (same ∙ less_own n is))
      by_test false is = inl (inl (same ∙ part_other ms (λ k. freed (held k)) held n is))

  pub put_may : (n : ℕ) (pair : Pair) → MayBePut ms put (part ms (λ k. freed (held k)) held) n pair → MayBeReplaced ms put held n pair
  put_may n pair (inl same) = less_may n pair same
  put_may n pair (inr one) = inr (one.0, one.1 ∙ ap (with_cell (put n)) (less_own n one.0))

  -- what is put over what was closed
  pub put_same : (n : ℕ) → put_in ms put held n ≡ part ms (λ k. with_cell (put k) (part ms (λ j. freed (held j)) held k)) (part ms (λ k. freed (held k)) held) n
  put_same n = by_test (is_in ms n) refl
    where
      by_test : (b : Bool) → is_in ms n ≡ b → put_in ms put held n ≡ part ms (λ k. with_cell (put k) (less k)) less n
      by_test true is =
          part_own ms (λ k. with_cell (put k) (freed (held k))) held n is
          ∙ (ap (with_cell (put n)) (sym (less_own n is)) ∙ sym (part_own ms (λ k. with_cell (put k) (less k)) less n is))
      by_test false is =
          part_other ms (λ k. with_cell (put k) (freed (held k))) held n is
          ∙ (sym (part_other ms (λ k. freed (held k)) held n is) ∙ sym (part_other ms (λ k. with_cell (put k) (less k)) less n is))

module _ {D : Type 0} (disk : Ghosts D) where
  -- the members still have their places
  pub places_on : (a s : ℕ) (ms : List Member) (known later : List Cells) (old new : D) → HasPlaces ms known (length (disk.seen old)) → WriteCells disk a s known later old new
      → HasPlaces ms later (length (disk.seen new))
  places_on a s ms known later old new places writes = record {
    shape = places.shape;
    placed = writes.placed places.shape places.placed;
    within = omega (arith, places.within, writes.only_written.length);
    inside = places.inside;
    short = places.short;
  }

  pub stands_on : (a s : ℕ) (shape : Shape) (ms : List Member) (held now : ℕ → Pair) (known later : List Cells) (old new : D) → StandTogether disk shape ms held known old
      → WriteCells disk a s known later old new → disk.unsynced new ≡ [] → Stand now later (disk.seen new) → StandTogether disk shape ms now later new
  stands_on a s shape ms held now known later old new together writes synced stand = record {
    distinct = together.distinct;
    placed = writes.placed shape together.placed;
    synced = synced;
    stand = stand;
  }

  pub left_map : (shape : Shape) (P Q : ℕ → Pair → Type 0) (start old new : D) → ((n : ℕ) (pair : Pair) → P n pair → Q n pair)
      → LeavesOnly disk (IsLeftTogether shape (disk.seen start) P) old new → LeavesOnly disk (IsLeftTogether shape (disk.seen start) Q) old new
  left_map shape P Q start old new implies left = leaves_map (together_map shape (disk.seen start) P Q implies) left

  pub left_then : (shape : Shape) (P Q : ℕ → Pair → Type 0) (old mid new : D) → SameOutsideCells shape (disk.seen old) (disk.seen mid) → ((n : ℕ) (pair : Pair) → P n pair → Q n pair)
      → LeavesOnly disk (IsLeftTogether shape (disk.seen old) Q) old mid → LeavesOnly disk (IsLeftTogether shape (disk.seen mid) P) mid new
      → LeavesOnly disk (IsLeftTogether shape (disk.seen old) Q) old new
  left_then shape P Q old mid new outside implies first second = goes_on_run first (leaves_map (together_then shape (disk.seen old) (disk.seen mid) P Q outside implies) second)

  -- the faults of calls after good ones
  pub counts_on : {A E : Type 0} (result : Result A E) (old mid new : D) → disk.faults mid ≡ disk.faults old → CountsFaults disk result mid new → CountsFaults disk result old new
  counts_on result old mid new same counts = record {
    good = subst (λ n. OnOk result (disk.faults new ≡ n)) same counts.good;
    failed = subst (λ n. OnErr result (Rose n (disk.faults new))) same counts.failed;
  }

  -- what no call costs, and calls behind none
  pub costs_still : (a s : ℕ) (old new : D) → new ≡ old → Costs disk a s old new
  costs_still a s old new same = record {
    calls = omega (arith, ap (λ d. length (disk.past d)) same);
    syncs = omega (arith, ap (λ d. synced_moments (history_of disk d)) same);
    faults = omega (arith, ap disk.faults same);
  }

  pub costs_before : (a s : ℕ) (old mid new : D) → mid ≡ old → Costs disk a s mid new → Costs disk a s old new
  costs_before a s old mid new same costs = subst (λ d. Costs disk a s d new) same costs

  pub costs_wider : (a b s t : ℕ) (old new : D) → a ≤ b → s ≤ t → Costs disk a s old new → Costs disk b t old new
  costs_wider a b s t old new calls syncs costs =
      record { calls = omega (arith, calls, costs.calls); syncs = omega (arith, syncs, costs.syncs); faults = costs.faults }
