-- What the three steps of a put of many documents leave of one document's cells.
use Rattle.std.proofs.Common.{◌≡◌, ◌≢◌, ◌⊎◌, ⊎_elim, inl, inr, ℕ, ◌+◌, ◌-◌, ◌*◌, ◌≤◌, ◌<◌, Option, Some, None, List, [], ◌∷◌, ◌++◌, length, take, drop, get_or, refl, sym, ◌∙◌, ap, subst, arith}
use Rattle.std.specs.Prelude.{◌↔◌}
use Rattle.std.proofs.lemmas.Option.{none-some, same_Some}
use Rattle.std.proofs.lemmas.List.{take_at, take-take, drop-take, drop-drop, drop_more, get_or-take, take-append-drop}
use Rattle.disk.specs.Apart.{CoversMoreWithin}
use Rattle.disk.specs.Crash.{Leaves, LeavesOnly, history_of}
use Rattle.disk.specs.Device.{History, MayLeave, IsCovered, IsWrite, IsAtMostOneStep, NoStep, OneStep, overwritten, SameOutside}
use Rattle.disk.specs.declared.device.Disk.{Ghosts}
use Rattle.disk.proofs.CallerLemmas.{begins_anywhere, goes_on_write, leaves_map, left_apart, costs_write, same_outside_wider, drop_overwritten, covered_by}
use Rattle.journal.specs.Area.{open_gate, frame, IsGated}
use Rattle.history.specs.Cell.{Cell, Pair, freed}
use Rattle.milestone.specs.CellSpelling.{cell_body}
use Rattle.milestone.specs.LeftOutside.{IsLeftOutside}
use Rattle.milestone.specs.OneCell.{HoldsCell}
use Rattle.milestone.specs.Revisions.{Revisions, with_revision}
use Rattle.milestone.specs.Cells.{with_cell, Fits, FitsNow, SameCells, HoldsInCells, IsLeftByFreeing, IsLeftByPut, revisions_of}
use Rattle.milestone.specs.Together.{IsLeftByStep, IsFreedOr, IsPutOr, closed_gate_of, closed_gate, HasRoom, framed_body, IsBehind, IsReady, StandApart, WriteWithin}
use Rattle.milestone.specs.declared.cells.Cells.{Cells}
use Rattle.milestone.proofs.Bytes.{first_byte}
use Rattle.milestone.proofs.Holding.{agree_within, first_changed, second_changed}
use Rattle.milestone.proofs.Freeing.{as_it_was}
use Rattle.milestone.proofs.Putting.{closed_of, putting_first, putting_second, is_put_first, is_put_second}

nothing : (at count : ℕ) (content : List ℕ) → SameOutside at count content content
nothing at count content = record { same_length = refl; before = refl; after = refl }

-- One write, good or not.
pub one_left : (at count : ℕ) (old new : History) → IsAtMostOneStep (IsWrite at count) old new → at + count ≤ length old.now.seen
    → Leaves (IsLeftOutside at count old.now) old new
one_left at count old new time fits =
    goes_on_write (begins_anywhere old (λ content left. record { before = content; left = left; outside = nothing at count content })) time fits
    (λ before content left same. record { before = before; left = left; outside = same })

written_outside : (at count : ℕ) (old new : History) → IsAtMostOneStep (IsWrite at count) old new → SameOutside at count old.now.seen new.now.seen
written_outside at count old new (NoStep same) = subst (λ (h : History). SameOutside at count old.now.seen h.now.seen) (sym same) (nothing at count old.now.seen)
written_outside at count old new (OneStep more step) = step.seen

written_covered : (at count : ℕ) (old new : History) → IsAtMostOneStep (IsWrite at count) old new → CoversMoreWithin at count old.now.unsynced new.now.unsynced
written_covered at count old new (NoStep same) place covered = inr (subst (λ (h : History). IsCovered h.now.unsynced place) same covered)
written_covered at count old new (OneStep more step) place covered =
    covered_by at count place old.now.unsynced (subst (λ (l : List (ℕ × ℕ)). IsCovered l place) step.unsynced covered)

module _ {D : Type 0} (disk : Ghosts D) where
  pub one_write : (at count : ℕ) (old new : D) → IsAtMostOneStep (IsWrite at count) (history_of disk old) (history_of disk new)
      → disk.faults new ≤ disk.faults old + 1 → (disk.honest new ↔ disk.honest old) → WriteWithin disk at count 1 old new
  one_write at count old new time faults honest =
      let cost = costs_write at count (history_of disk old) (history_of disk new) time in
      let same = written_outside at count (history_of disk old) (history_of disk new) time in
      record {
        outside = same;
        covered = written_covered at count (history_of disk old) (history_of disk new) time;
        costs = record { calls = cost.0; syncs = omega (arith, cost.1); faults = faults };
        only_written = record { length = same.same_length; honest = honest };
      }

  pub write_wider : (at size within count most : ℕ) (old new : D) → at ≤ within → within + count ≤ at + size
      → WriteWithin disk within count most old new → WriteWithin disk at size most old new
  write_wider at size within count most old new from to w = record {
    outside = same_outside_wider at size within count (disk.seen old) (disk.seen new) from to w.outside;
    covered = λ place covered. ⊎_elim (λ here. inl (omega (arith, from, here.0), omega (arith, to, here.1))) (λ before. inr before) (w.covered place covered);
    costs = w.costs;
    only_written = w.only_written;
  }

  module _ (cells : Cells) (pair : Pair) (old : D) (stand : StandApart disk cells pair old) (end : cells.place + 2 * cells.size ≤ length (disk.seen old)) where
    -- each content that a crash may leave is the same in the cells
    same_there : (before : List ℕ) → MayLeave (history_of disk old).now before
        → take (2 * cells.size) (drop cells.place before) ≡ take (2 * cells.size) (drop cells.place (disk.seen old))
    same_there before left = left_apart cells.place (2 * cells.size) (history_of disk old).now before stand.apart left

    fits_before : (before : List ℕ) → MayLeave (history_of disk old).now before → Fits before cells pair
    fits_before before left = record {
      holds = agree_within cells.place cells.size cells.number (disk.seen old) before pair (same_there before left) stand.fits.holds;
      revisions = stand.fits.revisions;
    }

    end_before : (before : List ℕ) → MayLeave (history_of disk old).now before → cells.place + 2 * cells.size ≤ length before
    end_before before left = omega (arith, left.same_length, end)

    -- no call
    pub nothing_called : (May : Pair → Type 0) → May pair → LeavesOnly disk (IsLeftByStep (history_of disk old).now cells May) old old
    nothing_called May may = begins_anywhere (history_of disk old) (λ content left. record {
      before = content;
      left = left;
      pair = pair;
      may = may;
      held = as_it_was content cells pair (fits_before content left) (end_before content left);
    })

    -- one write, where a fact about two contents tells all
    pub one_step : (May : Pair → Type 0) (at count : ℕ) (new : D) → LeavesOnly disk (IsLeftOutside at count (history_of disk old).now) old new
        → ((before content : List ℕ) → Fits before cells pair → cells.place + 2 * cells.size ≤ length before
        → take (2 * cells.size) (drop cells.place before) ≡ take (2 * cells.size) (drop cells.place (disk.seen old))
        → SameOutside at count before content → (left : Pair) × May left × HoldsInCells before cells left content)
        → LeavesOnly disk (IsLeftByStep (history_of disk old).now cells May) old new
    one_step May at count new leaves tells = leaves_map (λ content was.
        let told = tells was.before content (fits_before was.before was.left) (end_before was.before was.left) (same_there was.before was.left) was.outside in
        record { before = was.before; left = was.left; pair = told.0; may = told.1; held = told.2 }) leaves

pub freed_left : (old : List ℕ) (cells : Cells) (pair : Pair) (content : List ℕ) → IsLeftByFreeing old cells pair content
    → (left : Pair) × IsFreedOr pair left × HoldsInCells old cells left content
freed_left old cells pair content (inl held) = (pair, inl refl, held)
freed_left old cells pair content (inr held) = (freed pair, inr refl, held)

pub put_left : (old : List ℕ) (cells : Cells) (pair : Pair) (cell : Cell) (content : List ℕ) → IsLeftByPut old cells pair cell content
    → (left : Pair) × IsPutOr cell pair left × HoldsInCells old cells left content
put_left old cells pair cell content (inl held) = (pair, inl refl, held)
put_left old cells pair cell content (inr held) = (with_cell cell pair, inr refl, held)

-- Where the closed gate stands.
gate_place : (place size : ℕ) (first second : Option ℕ) (gate : ℕ) → closed_gate_of place size (first, second) ≡ Some gate
    → ((first ≡ None) × (gate ≡ place)) ⊎ ((first ≢ None) × (second ≡ None) × (gate ≡ place + size))
gate_place place size None second gate known = inl (refl, sym (same_Some place gate known))
gate_place place size (Some first) None gate known = inr (λ is. none-some first (sym is), refl, sym (same_Some (place + size) gate known))
gate_place place size (Some first) (Some second) gate known = absurd (none-some gate known)

pub gate_within : (cells : Cells) (gate n : ℕ) → closed_gate cells ≡ Some gate → 1 + n ≤ cells.size
    → (cells.place ≤ gate) × (gate + 1 + n ≤ cells.place + 2 * cells.size)
gate_within cells gate n known short = elim (gate_place cells.place cells.size cells.first cells.second gate known) [
  | inl (none, at) ↦ (omega (arith, at), omega (arith, at, short))
  | inr (there, none, at) ↦ (omega (arith, at), omega (arith, at, short))
]

-- A closed gate isn't written.
body_cell : (q size number n : ℕ) (old content : List ℕ) → 0 < size → SameOutside (q + 1) n old content → HoldsCell q size number old None → HoldsCell q size number content None
body_cell q size number n old content some same closed = λ is. closed (
    first_byte q size old some
    ∙ sym (get_or-take (q + 1) old q 0 (omega arith)) ∙ sym (ap (λ (l : List ℕ). get_or l q 0) same.before) ∙ get_or-take (q + 1) content q 0 (omega arith)
    ∙ sym (first_byte q size content some) ∙ is)

module _ (old : List ℕ) (cells : Cells) (pair : Pair) (fits : Fits old cells pair) where
  some : 0 < cells.size
  some = omega (arith, cells.size_low)

  in_first : (n : ℕ) → cells.first ≡ None → 1 + n ≤ cells.size → (content : List ℕ) → SameOutside (cells.place + 1) n old content → HoldsInCells old cells pair content
  in_first n none short content same =
      let shut : pair.0 ≡ None = closed_of pair.0 (sym none ∙ ap (λ (r : Revisions). r.0) fits.revisions) in
      let was : HoldsCell cells.place cells.size cells.number old None = subst (λ (o : Option Cell). HoldsCell cells.place cells.size cells.number old o) shut fits.holds.first in
      let now : HoldsCell cells.place cells.size cells.number content None = body_cell cells.place cells.size cells.number n old content some same was in
      record {
        outside = same_outside_wider cells.place (2 * cells.size) (cells.place + 1) n old content (omega arith) (omega (arith, short)) same;
        holds = first_changed cells.place cells.size cells.number old content pair.0 pair
            (same_outside_wider cells.place cells.size (cells.place + 1) n old content (omega arith) (omega (arith, short)) same) fits.holds
            (subst (λ (o : Option Cell). HoldsCell cells.place cells.size cells.number content o) (sym shut) now);
      }

  in_second : (n : ℕ) → cells.second ≡ None → 1 + n ≤ cells.size → (content : List ℕ) → SameOutside (cells.place + cells.size + 1) n old content → HoldsInCells old cells pair content
  in_second n none short content same =
      let shut : pair.1 ≡ None = closed_of pair.1 (sym none ∙ ap (λ (r : Revisions). r.1) fits.revisions) in
      let was : HoldsCell (cells.place + cells.size) cells.size cells.number old None = subst (λ (o : Option Cell). HoldsCell (cells.place + cells.size) cells.size cells.number old o) shut fits.holds.second in
      let now : HoldsCell (cells.place + cells.size) cells.size cells.number content None = body_cell (cells.place + cells.size) cells.size cells.number n old content some same was in
      record {
        outside = same_outside_wider cells.place (2 * cells.size) (cells.place + cells.size + 1) n old content (omega arith) (omega (arith, short)) same;
        holds = second_changed cells.place cells.size cells.number old content pair.1 pair
            (same_outside_wider (cells.place + cells.size) cells.size (cells.place + cells.size + 1) n old content (omega arith) (omega (arith, short)) same) fits.holds
            (subst (λ (o : Option Cell). HoldsCell (cells.place + cells.size) cells.size cells.number content o) (sym shut) now);
      }

  -- behind the closed gate any bytes may stand
  pub body_holds : (gate n : ℕ) → closed_gate cells ≡ Some gate → 1 + n ≤ cells.size → (content : List ℕ) → SameOutside (gate + 1) n old content → HoldsInCells old cells pair content
  body_holds gate n known short content same = elim (gate_place cells.place cells.size cells.first cells.second gate known) [
    | inl (none, at) ↦ in_first n none short content (subst (λ k. SameOutside (k + 1) n old content) at same)
    | inr (there, none, at) ↦ in_second n none short content (subst (λ k. SameOutside (k + 1) n old content) at same)
  ]

  pub body_left : (gate n : ℕ) → closed_gate cells ≡ Some gate → 1 + n ≤ cells.size → (content : List ℕ) → SameOutside (gate + 1) n old content
      → (left : Pair) × (left ≡ pair) × HoldsInCells old cells left content
  body_left gate n known short content same = (pair, refl, body_holds gate n known short content same)

  pub body_now : (gate n : ℕ) → closed_gate cells ≡ Some gate → 1 + n ≤ cells.size → (content : List ℕ) → SameOutside (gate + 1) n old content → FitsNow old cells content cells pair
  body_now gate n known short content same =
      let held = body_holds gate n known short content same in
      record {
        outside = held.outside;
        same = record { place = refl; size = refl; number = refl };
        fits = record { holds = held.holds; revisions = fits.revisions };
      }

-- What stands behind the gate.
pub framed_long : (cells : Cells) (cell : Cell) → HasRoom cells cell → 1 + length (framed_body cells cell) ≤ cells.size
framed_long cells cell room = long (cell_body cells.number cell) cells.size room.fits
  where
    long : (body : List ℕ) (size : ℕ) → 5 + length body ≤ size → 1 + length (frame body) ≤ size
    long body size fits = omega (arith, fits, framed)
      where
        framed : length (frame body) ≡ 4 + length body
        framed = omega arith

pub stands_behind : (gate : ℕ) (bytes old : List ℕ) → gate + 1 ≤ length old → IsBehind gate bytes (overwritten old (gate + 1) bytes)
stands_behind gate bytes old fits =
    ap (λ (l : List ℕ). take (length bytes) l) (drop_overwritten old (gate + 1) bytes fits) ∙ take_at bytes (drop (gate + 1 + length bytes) old) (length bytes) refl

pub body_ready : (cells : Cells) (gate : ℕ) (bytes old new : List ℕ) → closed_gate cells ≡ Some gate → gate + 1 ≤ length old → new ≡ overwritten old (gate + 1) bytes
    → (cell : Cell) → HasRoom cells cell → bytes ≡ framed_body cells cell → IsReady cells cell new
body_ready cells gate bytes old new known fits is cell room spelled = record {
  room = room;
  behind = λ other there.
      let same : gate ≡ other = same_Some gate other (sym known ∙ there) in
      subst (λ k. IsBehind k (framed_body cells cell) new) same
      (subst (λ (l : List ℕ). IsBehind gate l new) spelled (subst (λ (l : List ℕ). IsBehind gate bytes l) (sym is) (stands_behind gate bytes old fits)));
}

-- contents that agree within the cells' range agree on what stands behind a gate of theirs
behind_within : (place size gate : ℕ) (bytes a b : List ℕ) → place ≤ gate → gate + 1 + length bytes ≤ place + size → take size (drop place b) ≡ take size (drop place a)
    → IsBehind gate bytes a → IsBehind gate bytes b
behind_within place size gate bytes a b from to same behind = part b ∙ ap (λ (l : List ℕ). drop off (take (off + length bytes) l)) same ∙ sym (part a) ∙ behind
  where
    off : ℕ
    off = gate + 1 - place

    part : (l : List ℕ) → take (length bytes) (drop (gate + 1) l) ≡ drop off (take (off + length bytes) (take size (drop place l)))
    part l =
        let at : gate + 1 ≡ place + off = omega (arith, from) in
        ap (λ k. take (length bytes) (drop k l)) at
        ∙ ap (λ (m : List ℕ). take (length bytes) m) (sym (drop-drop off place l))
        ∙ sym (drop-take off (length bytes) (drop place l))
        ∙ ap (λ (m : List ℕ). drop off m) (sym (take-take (off + length bytes) size (drop place l) (omega (arith, from, to))))

pub ready_within : (cells : Cells) (cell : Cell) (a b : List ℕ) → take (2 * cells.size) (drop cells.place b) ≡ take (2 * cells.size) (drop cells.place a)
    → IsReady cells cell a → IsReady cells cell b
ready_within cells cell a b same ready = record {
  room = ready.room;
  behind = λ gate known.
      let within = gate_within cells gate (length (framed_body cells cell)) known (framed_long cells cell ready.room) in
      behind_within cells.place (2 * cells.size) gate (framed_body cells cell) a b within.0 within.1 same (ready.behind gate known);
}

-- The gate's byte over a spelling that stands there.
already : (gate : ℕ) (bytes old : List ℕ) → IsBehind gate bytes old → overwritten old (gate + 1) bytes ≡ old
already gate bytes old behind =
    let rest : bytes ++ drop (gate + 1 + length bytes) old ≡ drop (gate + 1) old =
    ap (λ (l : List ℕ). bytes ++ l) (sym (drop-drop (length bytes) (gate + 1) old))
    ∙ ap (λ (l : List ℕ). l ++ drop (length bytes) (drop (gate + 1) old)) (sym behind)
    ∙ take-append-drop (length bytes) (drop (gate + 1) old) in
    ap (λ (l : List ℕ). take (gate + 1) old ++ l) rest ∙ take-append-drop (gate + 1) old

one_byte : (gate : ℕ) (old content : List ℕ) → gate < length content → SameOutside gate 1 old content → content ≡ overwritten old gate (get_or content gate 0 ∷ [])
one_byte gate old content within same =
    sym (take-append-drop gate content)
    ∙ ap (λ (l : List ℕ). l ++ drop gate content) same.before
    ∙ ap (λ (l : List ℕ). take gate old ++ l) (drop_more content gate 0 within ∙ ap (λ (l : List ℕ). get_or content gate 0 ∷ l) same.after)

gated : (gate : ℕ) (bytes old content : List ℕ) → gate < length old → IsBehind gate bytes old → SameOutside gate 1 old content → IsGated gate bytes old content
gated gate bytes old content within behind same = inr (
  get_or content gate 0,
  one_byte gate old content (omega (arith, within, same.same_length)) same ∙ ap (λ (l : List ℕ). overwritten l gate (get_or content gate 0 ∷ [])) (sym (already gate bytes old behind)),
)

with_first : (revision : ℕ) (r : Revisions) → r.0 ≡ None → with_revision revision r ≡ (Some revision, r.1)
with_first revision (None, second) none = refl
with_first revision (Some x, second) none = absurd (none-some x (sym none))

with_second : (revision : ℕ) (r : Revisions) → r.0 ≢ None → with_revision revision r ≡ (r.0, Some revision)
with_second revision (None, second) there = absurd (there refl)
with_second revision (Some x, second) there = refl

module _ (old : List ℕ) (cells : Cells) (pair : Pair) (fits : Fits old cells pair) (end : cells.place + 2 * cells.size ≤ length old) (cell : Cell) (ready : IsReady cells cell old)
    (gate : ℕ) (known : closed_gate cells ≡ Some gate) where
  abbrev bytes : List ℕ
  bytes = framed_body cells cell

  inside : gate < length old
  inside = let within = gate_within cells gate (length bytes) known (framed_long cells cell ready.room) in omega (arith, within.1, end)

  pub gate_left : (content : List ℕ) → SameOutside gate 1 old content → (left : Pair) × IsPutOr cell pair left × HoldsInCells old cells left content
  gate_left content same =
      let left : IsGated gate bytes old content = gated gate bytes old content inside (ready.behind gate known) same in
      put_left old cells pair cell content (elim (gate_place cells.place cells.size cells.first cells.second gate known) [
        | inl (none, at) ↦ putting_first old cells pair fits end cell ready.room.is ready.room.fits none content (subst (λ k. IsGated k bytes old content) at left)
        | inr (there, none, at) ↦
            putting_second old cells pair fits end cell ready.room.is ready.room.fits there (inr none) content (subst (λ k. IsGated k bytes old content) at left)
      ])

  pub gate_open : (new : List ℕ) (later : Cells) → new ≡ overwritten old gate (open_gate ∷ []) → SameCells cells later
      → revisions_of later ≡ with_revision cell.revision (revisions_of cells) → FitsNow old cells new later (with_cell cell pair)
  gate_open new later is same revisions =
      let seen : new ≡ overwritten (overwritten old (gate + 1) bytes) gate (open_gate ∷ []) =
      is ∙ ap (λ (l : List ℕ). overwritten l gate (open_gate ∷ [])) (sym (already gate bytes old (ready.behind gate known))) in
      elim (gate_place cells.place cells.size cells.first cells.second gate known) [
        | inl (none, at) ↦
            let now = revisions ∙ with_first cell.revision (revisions_of cells) none in
            is_put_first old cells pair fits end cell ready.room.is ready.room.fits none new later
            (subst (λ k. new ≡ overwritten (overwritten old (k + 1) bytes) k (open_gate ∷ [])) at seen)
            same.place same.size same.number (ap (λ (r : Revisions). r.0) now) (ap (λ (r : Revisions). r.1) now)
        | inr (there, none, at) ↦
            let now = revisions ∙ with_second cell.revision (revisions_of cells) there in
            is_put_second old cells pair fits end cell ready.room.is ready.room.fits there (inr none) new later
            (subst (λ k. new ≡ overwritten (overwritten old (k + 1) bytes) k (open_gate ∷ [])) at seen)
            same.place same.size same.number (ap (λ (r : Revisions). r.0) now) (ap (λ (r : Revisions). r.1) now)
      ]
