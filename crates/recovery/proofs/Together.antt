-- One step of many documents at once, each written by itself before one sync for all.
use Rattle.std.proofs.Common.{◌≡◌, ◌≢◌, ◌⊎◌, inl, inr, ℕ, ◌+◌, ◌*◌, ◌≤◌, ◌<◌, true, false, Some, List, length, set, take, drop, get_or, refl, sym, ◌∙◌, ap, subst, ◌↔◌, arith}
use Rattle.std.specs.Prelude.{slice_get, Result, Ok, Err, OnOk, OnErr, min}
use Rattle.std.proofs.lemmas.Bool.{cases_eq}
use Rattle.std.proofs.lemmas.Option.{slice_get_within, same_Some}
use Rattle.disk.specs.declared.device.Disk.{Ghosts}
use Rattle.disk.specs.Apart.{IsApart, AreApart, CoversMoreWithin}
use Rattle.disk.specs.Calls.{HasOnlyWritten, CountsFaults}
use Rattle.disk.specs.Counted.{Costs}
use Rattle.disk.specs.Crash.{Leaves, LeavesIn, LeavesOnly, history_of}
use Rattle.disk.specs.Device.{State, History, SameOutside, IsSync, IsAtMostOneStep, most_faults}
use Rattle.disk.proofs.CallerLemmas.{begins, goes_on_run, leaves_map, same_outside_wider, same_outside_then, apart_synced, apart_still, costs_sync}
use Rattle.history.specs.Cell.{Cell, Pair}
use Rattle.milestone.specs.declared.cells.Cells.{Cells}
use Rattle.milestone.specs.Cells.{Fits, FitsNow, SameCells, with_cell, place_of, size_of, number_of}
use Rattle.milestone.specs.OneCell.{HoldsPair}
use Rattle.milestone.specs.Together.{IsLeftByStep, IsPutOr, HasRoom, IsReady, StandApart, WritesWithin, framed_body}
use Rattle.milestone.specs.CellSpelling.{IsCell, cell_body}
use Rattle.journal.specs.Area.{frame}
use Rattle.milestone.proofs.CallerLemmas.{agree_within, ready_within}
use Rattle.recovery.specs.declared.group.Member.{Member}
use Rattle.recovery.specs.declared.shape.Shape.{Shape}
use Rattle.recovery.specs.Shape.{cells_place, slots_place}
use Rattle.recovery.specs.Cells.{IsCellsOf, AreCellsOf}
use Rattle.recovery.specs.steps.Group.{SameOutsideCells, HoldsOne, IsLeftTogether, Stand, Spells, AreReady, AreWaiting, StandTogether, WriteCells, IsUnderWay, is_in}
use Rattle.recovery.proofs.Covering.{low_or_above}
use Rattle.recovery.proofs.Layouts.{cells_before}
use Rattle.recovery.proofs.Members.{in_other, not_before, not_next}
use Rattle.recovery.proofs.PutCells.{other_bytes, cells_after, cells_put, set_each, fits_there}
pub use Rattle.history.proofs.CallerLemmas.{some-there as there}

pub same_outside : (old : List ℕ) (at count : ℕ) → SameOutside at count old old
same_outside old at count = record { same_length = refl; before = refl; after = refl }

-- the cells of different documents lie apart
pub lie_apart : (shape : Shape) (number other : ℕ) → number ≢ other → AreApart (cells_place shape number) (2 * shape.cell) (cells_place shape other) (2 * shape.cell)
lie_apart shape number other apart = elim (low_or_above other number) [
  | inl low ↦ inr (cells_after shape other number (below low))
  | inr above ↦ inl (cells_after shape number other above)
]
  where
    below : other ≤ number → other < number
    below low = elim (low_or_above number other) [
      | inl same ↦ absurd (apart (omega (arith, low, same)))
      | inr under ↦ under
    ]

-- the cells of a document, where the shape says that they lie
module _ (shape : Shape) (number : ℕ) (one : Cells) (its : IsCellsOf shape number one) where
  pub outside_here : (a b : List ℕ) → SameOutside (place_of one) (2 * size_of one) a b → SameOutside (cells_place shape number) (2 * shape.cell) a b
  outside_here a b outside =
      subst (λ n. SameOutside n (2 * shape.cell) a b) its.place (subst (λ n. SameOutside (place_of one) (2 * n) a b) its.size outside)

  pub holds_here : (content : List ℕ) (pair : Pair) → HoldsPair (place_of one) (size_of one) (number_of one) content pair → HoldsPair (cells_place shape number) shape.cell number content pair
  holds_here content pair holds =
      subst (λ n. HoldsPair n shape.cell number content pair) its.place
      (subst (λ n. HoldsPair (place_of one) n number content pair) its.size
      (subst (λ n. HoldsPair (place_of one) (size_of one) n content pair) its.of holds))

  covers_here : (u v : List (ℕ × ℕ)) → CoversMoreWithin (place_of one) (2 * size_of one) u v → CoversMoreWithin (cells_place shape number) (2 * shape.cell) u v
  covers_here u v covers =
      subst (λ n. CoversMoreWithin n (2 * shape.cell) u v) its.place (subst (λ n. CoversMoreWithin (place_of one) (2 * n) u v) its.size covers)

  pub apart_here : (u : List (ℕ × ℕ)) → IsApart (cells_place shape number) (2 * shape.cell) u → IsApart (place_of one) (2 * size_of one) u
  apart_here u apart =
      subst (λ n. IsApart (place_of one) (2 * n) u) (sym its.size) (subst (λ n. IsApart n (2 * shape.cell) u) (sym its.place) apart)

  -- they lie within the device
  pub within_here : (count : ℕ) → number < shape.docs → slots_place shape ≤ count → place_of one + 2 * size_of one ≤ count
  within_here count inside within = omega (arith, its.place, its.size, cells_before shape number inside, within)

  -- another document's cells stay
  pub apart_next : (u v : List (ℕ × ℕ)) (other : ℕ) → number ≢ other → CoversMoreWithin (place_of one) (2 * size_of one) u v
      → IsApart (cells_place shape other) (2 * shape.cell) u → IsApart (cells_place shape other) (2 * shape.cell) v
  apart_next u v other differ covers apart =
      apart_still (cells_place shape number) (2 * shape.cell) (cells_place shape other) (2 * shape.cell) u v (lie_apart shape number other differ) (covers_here u v covers) apart

  -- and nothing but cells changes
  pub outside_cells : number < shape.docs → (a b : List ℕ) → SameOutside (place_of one) (2 * size_of one) a b → SameOutsideCells shape a b
  outside_cells inside a b outside =
      let before = cells_before shape number inside in
      same_outside_wider 64 (2 * shape.docs * shape.cell) (cells_place shape number) (2 * shape.cell) a b (omega arith) (omega (arith, before)) (outside_here a b outside)

  -- what a crash within the step of this document leaves
  module _ (inside : number < shape.docs) (old : List ℕ) (May : ℕ → Pair → Type 0) (MayOne : Pair → Type 0) (implies : (pair : Pair) → MayOne pair → May number pair) where
    left_next : (state : State) → LeavesIn (IsLeftTogether shape old May) state → (content : List ℕ) → IsLeftByStep state one MayOne content → IsLeftTogether shape old May content
    left_next state so_far content left =
        let before = so_far left.before left.left in
        record {
          outside = same_outside_then 64 (2 * shape.docs * shape.cell) old left.before content before.outside (outside_cells inside left.before content left.held.outside);
          each = λ other below. elim (cases_eq number other) [
            | inl same ↦ subst (λ n. HoldsOne shape n (May n) content) same own
            | inr differ ↦
                let was = before.each other below in
                record {
                  pair = was.pair;
                  may = was.may;
                  holds = agree_within (cells_place shape other) shape.cell other left.before content was.pair
                      (other_bytes shape number left.before content (outside_here left.before content left.held.outside) other differ) was.holds;
                }
          ];
        }
      where
        own : HoldsOne shape number (May number) content
        own = record { pair = left.pair; may = implies left.pair left.may; holds = holds_here content left.pair left.held.holds }

    pub left_more : {start mid new : History} → Leaves (IsLeftTogether shape old May) start mid → Leaves (IsLeftByStep mid.now one MayOne) mid new
        → Leaves (IsLeftTogether shape old May) start new
    left_more {start} {mid} {new} first second = goes_on_run first (leaves_map (left_next mid.now first.last) second)

-- the known cells fit a content where those of one document are others, with this pair
pub stand_more : (shape : Shape) (known : List Cells) (number : ℕ) (one later : Cells) (pair : Pair) (f g : ℕ → Pair) (a b : List ℕ)
    → AreCellsOf shape known → IsCellsOf shape number one → FitsNow a one b later pair → g number ≡ pair → ((n : ℕ) → number ≢ n → g n ≡ f n) → Stand f known a
    → Stand g (set known number later) b
stand_more shape known number one later pair f g a b are its now own others stand =
    set_each (λ n c. Fits b c (g n)) known number later (subst (Fits b later) (sym own) now.fits)
    (λ n c differ is.
    subst (Fits b c) (sym (others n differ))
    (fits_there shape n c a b (f n) (are.each n c is) (other_bytes shape number a b (outside_here shape number one its a b now.outside) n differ) (stand n c is)))

-- what is ready stays so where another document is written
pub ready_still : (shape : Shape) (number other : ℕ) (one c : Cells) (cell : Cell) (a b : List ℕ) → IsCellsOf shape number one → IsCellsOf shape other c
    → SameOutside (place_of one) (2 * size_of one) a b → number ≢ other → IsReady c cell a → IsReady c cell b
ready_still shape number other one c cell a b its its_own outside differ ready =
    ready_within c cell a b
    (subst (λ n. take (2 * size_of c) (drop n b) ≡ take (2 * size_of c) (drop n a)) (sym its_own.place)
    (subst (λ n. take (2 * n) (drop (cells_place shape other) b) ≡ take (2 * n) (drop (cells_place shape other) a)) (sym its_own.size)
    (other_bytes shape number a b (outside_here shape number one its a b outside) other differ))) ready

pub same_cells : (one : Cells) → SameCells one one
same_cells one = record { place = refl; size = refl; number = refl }

-- the cells of a member's document have room for what its bytes spell
pub room_here : (shape : Shape) (cell : Cell) (m : Member) (one : Cells) → IsCellsOf shape m.document one → Spells shape cell m → HasRoom one cell
room_here shape cell m one its spells = record {
  is = subst (λ n. IsCell n cell) (sym its.of) spells.is;
  fits = omega (arith, spells.fits, its.size, ap (λ n. length (cell_body n cell)) its.of);
}

pub framed_here : (shape : Shape) (cell : Cell) (m : Member) (one : Cells) → IsCellsOf shape m.document one → Spells shape cell m → m.bytes.items ≡ framed_body one cell
framed_here shape cell m one its spells = spells.bytes ∙ ap (λ n. frame (cell_body n cell)) (sym its.of)

pub put_implies : (X : Type 0) → X → (cell : Cell) (pair left : Pair) → IsPutOr cell pair left → (left ≡ pair) ⊎ (X × (left ≡ with_cell cell pair))
put_implies X has cell pair left (inl same) = inl same
put_implies X has cell pair left (inr put) = inr (has, put)

-- one more is ready, or waits no longer
module _ (shape : Shape) (ms : List Member) (k : ℕ) (m : Member) (inside : k < length ms) (is : get_or ms k m ≡ m) (put : ℕ → Cell) (known : List Cells) (are : AreCellsOf shape known) (one : Cells)
    (at : slice_get known m.document ≡ Some one) (a b : List ℕ) (outside : SameOutside (place_of one) (2 * size_of one) a b) where
  pub ready_more : IsReady one (put m.document) b → AreReady (take k ms) put known a → AreReady (take (k + 1) ms) put known b
  ready_more ready before n c own here = elim (cases_eq m.document n) [
    | inl same ↦
        let one_is : one ≡ c = same_Some one c (sym at ∙ (ap (λ j. slice_get known j) same ∙ here)) in
        subst (λ j. IsReady c (put j) b) same (subst (λ (x : Cells). IsReady x (put m.document) b) one_is ready)
    | inr differ ↦
        ready_still shape m.document n one c (put n) a b (are.each m.document one at) (are.each n c here) outside differ
        (before n c (sym (in_other ms k m inside is n differ) ∙ own) here)
  ]

  pub waits_more : (later : Cells) → AreWaiting ms k put known a → AreWaiting ms (k + 1) put (set known m.document later) b
  waits_more later waits n c own away here =
      set_each (λ j x. is_in ms j ≡ true → is_in (take (k + 1) ms) j ≡ false → IsReady x (put j) b) known m.document later
      (λ mine gone. absurd (not_next ms k m inside is m.document gone refl))
      (λ j x differ there mine gone.
      ready_still shape m.document j one x (put j) a b (are.each m.document one at) (are.each j x there) outside differ
      (waits j x mine (not_before ms k m inside is j gone) there)) n c here own away

-- what a crash leaves, by other words
pub together_map : (shape : Shape) (old : List ℕ) (P Q : ℕ → Pair → Type 0) → ((n : ℕ) (pair : Pair) → P n pair → Q n pair) → (content : List ℕ)
    → IsLeftTogether shape old P content → IsLeftTogether shape old Q content
together_map shape old P Q implies content left = record {
  outside = left.outside;
  each = λ n below. let one = left.each n below in record { pair = one.pair; may = implies n one.pair one.may; holds = one.holds };
}

pub together_then : (shape : Shape) (old mid : List ℕ) (P Q : ℕ → Pair → Type 0) → SameOutsideCells shape old mid → ((n : ℕ) (pair : Pair) → P n pair → Q n pair) → (content : List ℕ)
    → IsLeftTogether shape mid P content → IsLeftTogether shape old Q content
together_then shape old mid P Q outside implies content left = record {
  outside = same_outside_then 64 (2 * shape.docs * shape.cell) old mid content outside left.outside;
  each = (together_map shape mid P Q implies content left).each;
}

pub on_ok : {A E P : Type 0} (result : Result A E) → P → OnOk result P
on_ok (Ok answer) has = has
on_ok (Err fault) has = tt

module _ {D : Type 0} (disk : Ghosts D) where
  pub written_then : {old mid new : D} → HasOnlyWritten disk old mid → HasOnlyWritten disk mid new → HasOnlyWritten disk old new
  written_then first second = record {
    length = second.length ∙ first.length;
    honest = (λ h. first.honest.0 (second.honest.0 h), λ h. second.honest.1 (first.honest.1 h));
  }

  pub costs_then : (a b s t : ℕ) {old mid new : D} → disk.faults mid ≡ disk.faults old → Costs disk a s old mid → Costs disk b t mid new → Costs disk (a + b) (s + t) old new
  costs_then a b s t good first second = record {
    calls = omega (arith, first.calls, second.calls);
    syncs = omega (arith, first.syncs, second.syncs);
    faults = omega (arith, good, second.faults);
  }

  pub writes_none : (known : List Cells) (d : D) → WriteCells disk 0 0 known known d d
  writes_none known d = record {
    placed = λ shape are. are;
    outside = λ shape are. same_outside (disk.seen d) 64 (2 * shape.docs * shape.cell);
    costs = record { calls = omega arith; syncs = omega arith; faults = omega arith };
    only_written = record { length = refl; honest = (λ h. h, λ h. h) };
  }

  pub writes_then : (a b s t : ℕ) (known mid_known later : List Cells) (old mid new : D) → disk.faults mid ≡ disk.faults old → WriteCells disk a s known mid_known old mid → WriteCells disk b t mid_known later mid new
      → WriteCells disk (a + b) (s + t) known later old new
  writes_then a b s t known mid_known later old mid new good first second = record {
    placed = λ shape are. second.placed shape (first.placed shape are);
    outside = λ shape are.
        same_outside_then 64 (2 * shape.docs * shape.cell) (disk.seen old) (disk.seen mid) (disk.seen new) (first.outside shape are) (second.outside shape (first.placed shape are));
    costs = costs_then a b s t good first.costs second.costs;
    only_written = written_then first.only_written second.only_written;
  }

  pub writes_wider : (a b s t : ℕ) (known later : List Cells) (old new : D) → a ≤ b → s ≤ t → WriteCells disk a s known later old new → WriteCells disk b t known later old new
  writes_wider a b s t known later old new calls syncs writes = record {
    placed = writes.placed;
    outside = writes.outside;
    costs = record { calls = omega (arith, calls, writes.costs.calls); syncs = omega (arith, syncs, writes.costs.syncs); faults = writes.costs.faults };
    only_written = writes.only_written;
  }

  -- one document's cells are written
  pub writes_one : (known : List Cells) (number : ℕ) (one later : Cells) (now next : D) → slice_get known number ≡ Some one → SameCells one later
      → WritesWithin disk one 1 now next → WriteCells disk 1 0 known (set known number later) now next
  writes_one known number one later now next is same writes = record {
    placed = λ shape are. cells_put shape known number one later are (are.each number one is) same;
    outside = λ shape are.
        outside_cells shape number one (are.each number one is) (omega (arith, slice_get_within known number one is, are.count)) (disk.seen now) (disk.seen next) writes.outside;
    costs = writes.costs;
    only_written = writes.only_written;
  }

  -- before the first step
  pub way_begins : (shape : Shape) (ms : List Member) (May : ℕ → Pair → Type 0) (held : ℕ → Pair) (start : D) (known : List Cells) → StandTogether disk shape ms held known start
      → ((n : ℕ) → May n (held n)) → IsUnderWay disk shape ms 0 May held start start known
  way_begins shape ms May held start known together may = record {
    left = begins (history_of disk start) together.synced (record {
      outside = same_outside (disk.seen start) 64 (2 * shape.docs * shape.cell);
      each = λ n below.
          let found = there known n (omega (arith, below, together.placed.count)) in
          record {
            pair = held n;
            may = may n;
            holds = holds_here shape n found.0 (together.placed.each n found.0 found.1) (disk.seen start) (held n) (together.stand n found.0 found.1).holds;
          };
    });
    stand = together.stand;
    apart = λ n below away. apart_synced (cells_place shape n) (2 * shape.cell) (disk.unsynced start) together.synced;
  }

  -- and after the step of one more
  module _ (shape : Shape) (ms : List Member) (k : ℕ) (m : Member) (inside : k < length ms) (is : get_or ms k m ≡ m) (within : m.document < shape.docs)
      (May : ℕ → Pair → Type 0) (f : ℕ → Pair) (start now next : D) (known : List Cells) (way : IsUnderWay disk shape ms k May f start now known)
      (are : AreCellsOf shape known) (one : Cells) (at : slice_get known m.document ≡ Some one) (not_yet : is_in (take k ms) m.document ≡ false) where
    pub its : IsCellsOf shape m.document one
    its = are.each m.document one at

    -- the step may be made
    pub stands_apart : StandApart disk one (f m.document) now
    stands_apart = record {
      apart = apart_here shape m.document one its (disk.unsynced now) (way.apart m.document within not_yet);
      fits = way.stand m.document one at;
    }

    pub way_left : (MayOne : Pair → Type 0) → ((pair : Pair) → MayOne pair → May m.document pair)
        → LeavesOnly disk (IsLeftByStep (history_of disk now).now one MayOne) now next → LeavesOnly disk (IsLeftTogether shape (disk.seen start) May) start next
    way_left MayOne implies step = left_more shape m.document one its within (disk.seen start) May MayOne implies way.left step

    pub way_more : (MayOne : Pair → Type 0) → ((pair : Pair) → MayOne pair → May m.document pair)
        → LeavesOnly disk (IsLeftByStep (history_of disk now).now one MayOne) now next → WritesWithin disk one 1 now next
        → (g : ℕ → Pair) (later : Cells) (pair : Pair) → FitsNow (disk.seen now) one (disk.seen next) later pair → g m.document ≡ pair → ((n : ℕ) → m.document ≢ n → g n ≡ f n)
        → IsUnderWay disk shape ms (k + 1) May g start next (set known m.document later)
    way_more MayOne implies step writes g later pair fits own others = record {
      left = way_left MayOne implies step;
      stand = stand_more shape known m.document one later pair f g (disk.seen now) (disk.seen next) are its fits own others way.stand;
      apart = λ n below away.
          apart_next shape m.document one its (disk.unsynced now) (disk.unsynced next) n (not_next ms k m inside is n away) writes.covered
          (way.apart n below (not_before ms k m inside is n away));
    }

  -- the sync after all steps
  pub counts_sync : {E : Type 0} (start mid new : D) (result : Result (Unit {0}) E) → disk.faults mid ≡ disk.faults start
      → OnOk result ((disk.faults new ≡ disk.faults mid) × (disk.faults mid < most_faults)) → OnErr result (disk.faults new ≡ min (disk.faults mid + 1) most_faults)
      → CountsFaults disk result start new
  counts_sync start mid new (Ok answer) same good failed = record { good = good.0 ∙ same; failed = tt }
  counts_sync start mid new (Err fault) same good failed = record { good = tt; failed = omega (arith, failed, same) }

  fault_more : {E : Type 0} (mid new : D) (result : Result (Unit {0}) E)
      → OnOk result ((disk.faults new ≡ disk.faults mid) × (disk.faults mid < most_faults)) → OnErr result (disk.faults new ≡ min (disk.faults mid + 1) most_faults)
      → disk.faults new ≤ disk.faults mid + 1
  fault_more mid new (Ok answer) good failed = omega (arith, good.0)
  fault_more mid new (Err fault) good failed = omega (arith, failed)

  pub writes_sync : {E : Type 0} (known : List Cells) (mid new : D) (result : Result (Unit {0}) E) → disk.seen new ≡ disk.seen mid → (disk.honest new ↔ disk.honest mid)
      → IsAtMostOneStep IsSync (history_of disk mid) (history_of disk new)
      → OnOk result ((disk.faults new ≡ disk.faults mid) × (disk.faults mid < most_faults)) → OnErr result (disk.faults new ≡ min (disk.faults mid + 1) most_faults)
      → WriteCells disk 1 1 known known mid new
  writes_sync known mid new result seen honest time good failed =
      let cost = costs_sync (history_of disk mid) (history_of disk new) time in
      record {
        placed = λ shape are. are;
        outside = λ shape are. subst (SameOutside 64 (2 * shape.docs * shape.cell) (disk.seen mid)) (sym seen) (same_outside (disk.seen mid) 64 (2 * shape.docs * shape.cell));
        costs = record { calls = cost.0; syncs = cost.1; faults = fault_more mid new result good failed };
        only_written = record { length = ap (λ (l : List ℕ). length l) seen; honest = honest };
      }
