-- What two cells hold after the writes of a call.
use Rattle.std.proofs.Common.{◌≡◌, ◌⊎◌, ⊎_elim, inl, inr, ℕ, ◌+◌, ◌-◌, ◌*◌, ◌≤◌, ◌<◌, Option, Some, None, List, [], ◌∷◌, length, take, drop, get_or, sym, ◌∙◌, ap, subst, arith, length-append, length-take}
use Rattle.std.proofs.lemmas.List.{take-take, drop-take, drop-drop}
use Rattle.disk.specs.Device.{overwritten, SameOutside}
use Rattle.disk.proofs.CallerLemmas.{byte_overwritten}
use Rattle.journal.specs.Area.{open_gate, frame, open_record, IsGated}
use Rattle.history.specs.Cell.{Cell, Pair}
use Rattle.milestone.specs.CellSpelling.{Format, Two, cell_body_in, cell_body, IsCell}
use Rattle.milestone.specs.OneCell.{bytes_at, HoldsOpenCellIn, HoldsOpenCell, HoldsCell, HoldsPair}
use Rattle.milestone.proofs.Bytes.{range_before, first_byte, gate_written, gated_outside, gated_bytes, gating}

-- what a cell holds, it holds by its bytes alone
pub same_cell : (p q size number : ℕ) (a b : List ℕ) (cell : Option Cell) → bytes_at q size b ≡ bytes_at p size a → HoldsCell p size number a cell → HoldsCell q size number b cell
same_cell p q size number a b None same holds = λ is. holds (sym (ap (λ (l : List ℕ). get_or l 0 0) same) ∙ is)
same_cell p q size number a b (Some cell) same holds = subst (λ (l : List ℕ). HoldsOpenCell number l cell) (sym same) holds

-- the gate of a cell that holds a document is open
pub open_there : (format : Format) (number : ℕ) (bytes : List ℕ) (cell : Cell) → HoldsOpenCellIn format number bytes cell → get_or bytes 0 0 ≡ open_gate
open_there format number bytes cell holds = ap (λ (l : List ℕ). get_or l 0 0) holds.split

-- a body that a cell holds fits
pub fits_there : (format : Format) (q size number : ℕ) (content : List ℕ) (cell : Cell) → HoldsOpenCellIn format number (bytes_at q size content) cell → 5 + length (cell_body_in format number cell) ≤ size
fits_there format q size number content cell holds =
    omega (arith, ap (length {A = ℕ}) holds.split, length-append (open_record (cell_body_in format number cell)) holds.rest, length-take size (drop q content), length-append (frame (cell_body_in format number cell)) holds.rest)

-- the second cell stays where the first changes, and the first where the second does
second_stays : (place size : ℕ) (old new : List ℕ) → SameOutside place size old new → bytes_at (place + size) size new ≡ bytes_at (place + size) size old
second_stays place size old new same = ap (λ (l : List ℕ). take size l) same.after

first_stays : (place size : ℕ) (old new : List ℕ) → SameOutside (place + size) size old new → bytes_at place size new ≡ bytes_at place size old
first_stays place size old new same = range_before place size (place + size) old new (omega arith) same.before

pub first_changed : (place size number : ℕ) (old new : List ℕ) (first : Option Cell) (pair : Pair) → SameOutside place size old new → HoldsPair place size number old pair
    → HoldsCell place size number new first → HoldsPair place size number new (first, pair.1)
first_changed place size number old new first pair same holds here = record {
  first = here;
  second = same_cell (place + size) (place + size) size number old new pair.1 (second_stays place size old new same) holds.second;
}

pub second_changed : (place size number : ℕ) (old new : List ℕ) (second : Option Cell) (pair : Pair) → SameOutside (place + size) size old new → HoldsPair place size number old pair
    → HoldsCell (place + size) size number new second → HoldsPair place size number new (pair.0, second)
second_changed place size number old new second pair same holds here = record {
  first = same_cell place place size number old new pair.0 (first_stays place size old new same) holds.first;
  second = here;
}

-- contents that agree within the cells' range hold the same pair
pub agree_within : (place size number : ℕ) (a b : List ℕ) (pair : Pair) → take (2 * size) (drop place b) ≡ take (2 * size) (drop place a)
    → HoldsPair place size number a pair → HoldsPair place size number b pair
agree_within place size number a b pair same holds =
    let first : (l : List ℕ) → bytes_at place size l ≡ take size (take (2 * size) (drop place l)) = λ l. sym (take-take size (2 * size) (drop place l) (omega arith)) in
    let both : 2 * size ≡ size + size = omega arith in
    let second : (l : List ℕ) → bytes_at (place + size) size l ≡ drop size (take (2 * size) (drop place l)) =
    λ l. ap (λ (m : List ℕ). take size m) (sym (drop-drop size place l)) ∙ sym (drop-take size size (drop place l)) ∙ ap (λ k. drop size (take k (drop place l))) (sym both) in
    record {
      first = same_cell place place size number a b pair.0 (first b ∙ ap (λ (l : List ℕ). take size l) same ∙ sym (first a)) holds.first;
      second = same_cell (place + size) (place + size) size number a b pair.1 (second b ∙ ap (λ (l : List ℕ). drop size l) same ∙ sym (second a)) holds.second;
    }

-- a cell whose gate alone is written
pub closing_cell : (q size number : ℕ) (old content : List ℕ) (cell : Cell) → 0 < size → q + size ≤ length old → SameOutside q 1 old content → HoldsOpenCell number (bytes_at q size old) cell
    → HoldsCell q size number content None ⊎ HoldsCell q size number content (Some cell)
closing_cell q size number old content cell some within same holds =
    ⊎_elim (λ shut. inl shut) (λ is. inr (subst (λ (l : List ℕ). HoldsOpenCell number l cell) (sym is) holds))
    (gate_written q size old content some within same (open_there Two number (bytes_at q size old) cell holds))

pub closed_cell : (q size number : ℕ) (old new : List ℕ) → 0 < size → q + size ≤ length old → new ≡ overwritten old q (0 ∷ []) → HoldsCell q size number new None
closed_cell q size number old new some within is = λ gate.
    let here : q - q ≡ 0 = omega arith in
    let shut : get_or (bytes_at q size new) 0 0 ≡ 0 =
    first_byte q size new some ∙ ap (λ (l : List ℕ). get_or l q 0) is ∙ byte_overwritten old q (0 ∷ []) q (omega arith) (omega arith, omega arith) ∙ ap (λ k. get_or (0 ∷ []) k 0) here in
    absurd (omega (arith, shut, gate))

-- a cell that is put
module _ (q size number : ℕ) (old : List ℕ) (cell : Cell) (is : IsCell number cell) (fits : 5 + length (cell_body number cell) ≤ size) (within : q + size ≤ length old) where
  abbrev body : List ℕ
  body = cell_body number cell

  long : 1 + length (frame body) ≤ size
  long = omega (arith, fits, frame_long)
    where
      frame_long : length (frame body) ≡ 4 + length body
      frame_long = omega arith

  pub putting_cell : HoldsCell q size number old None → (content : List ℕ) → IsGated q (frame body) old content
      → SameOutside q size old content × (HoldsCell q size number content None ⊎ HoldsCell q size number content (Some cell))
  putting_cell closed content gated =
      let left = gating q size (frame body) old long within closed content gated in
      (left.0, ⊎_elim (λ shut. inl shut) (λ there. inr (record { is = is; rest = _; split = there })) left.1)

  pub put_cell : (new : List ℕ) → new ≡ overwritten (overwritten old (q + 1) (frame body)) q (open_gate ∷ []) → HoldsCell q size number new (Some cell)
  put_cell new same = record { is = is; rest = _; split = ap (bytes_at q size) same ∙ gated_bytes q size (frame body) old long within open_gate }

  pub put_outside : (new : List ℕ) → new ≡ overwritten (overwritten old (q + 1) (frame body)) q (open_gate ∷ []) → SameOutside q size old new
  put_outside new same = subst (λ (l : List ℕ). SameOutside q size old l) (sym same) (gated_outside q size (frame body) old long within open_gate)
