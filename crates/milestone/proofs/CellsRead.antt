-- What is read of a cell: its gate, the length of its body, and the body.
use Rattle.std.proofs.Common.{◌≡◌, ◌≢◌, ℕ, ◌+◌, ◌-◌, ◌^◌, ◌≤◌, ◌<◌, Option, Some, None, List, ◌∷◌, ◌++◌, length, take, drop, get_or, refl, sym, ◌∙◌, ap, arith, append_assoc, take-append-drop, length-take, length-drop}
use Rattle.std.specs.Int.{w32, to_le_bytes, from_le_bytes}
use Rattle.std.proofs.lemmas.Nat.{from_le_bytes-to_le_bytes_4}
use Rattle.std.proofs.lemmas.List.{take_at, take_all, take-take, drop-take, drop-drop, drop_more, get_or-take}
use Rattle.journal.specs.Area.{open_gate, open_record}
use Rattle.history.specs.Cell.{Cell}
use Rattle.milestone.specs.CellSpelling.{Format, cell_body_in, IsCellIn}
use Rattle.milestone.specs.OneCell.{bytes_at, HoldsOpenCellIn, HoldsCellIn}
use Rattle.milestone.proofs.Holding.{fits_there}

module _ (format : Format) (q size number : ℕ) (content head : List ℕ) (large : 256 ≤ size) (small : size ≤ 16777216) (within : q + size ≤ length content) (read : head ≡ take 5 (drop q content)) where
  heads : take 5 (bytes_at q size content) ≡ head
  heads = take-take 5 size (drop q content) (omega (arith, large)) ∙ sym read

  gate_read : get_or (bytes_at q size content) 0 0 ≡ get_or head 0 0
  gate_read = sym (get_or-take 5 (bytes_at q size content) 0 0 (omega arith)) ∙ ap (λ (l : List ℕ). get_or l 0 0) heads

  -- a cell whose gate isn't open holds nothing
  pub closed_read : get_or head 0 0 ≢ open_gate → HoldsCellIn format q size number content None
  closed_read shut = λ is. shut (sym gate_read ∙ is)

  -- what is behind the length
  behind : drop 5 (bytes_at q size content) ≡ take (size - 5) (drop (q + 5) content)
  behind =
      let whole : 5 + (size - 5) ≡ size = omega (arith, large) in
      ap (λ k. drop 5 (take k (drop q content))) (sym whole) ∙ drop-take 5 (size - 5) (drop q content) ∙ ap (λ (l : List ℕ). take (size - 5) l) (drop-drop 5 q content)

  module _ (len : ℕ) (low : len < 2 ^ 32) (gate : get_or head 0 0 ≡ open_gate) (spelled : take 4 (drop 1 head) ≡ to_le_bytes w32 len) where
    head_long : length head ≡ 5
    head_long = omega (arith, ap (length {A = ℕ}) read, length-take 5 (drop q content), length-drop q content, within, large)

    head_is : head ≡ open_gate ∷ to_le_bytes w32 len
    head_is = drop_more head 0 0 (omega (arith, head_long)) ∙ ap (λ g. g ∷ drop 1 head) gate ∙ ap (λ (l : List ℕ). open_gate ∷ l) (sym (take_all 4 (drop 1 head) (omega (arith, length-drop 1 head, head_long))) ∙ spelled)

    -- of a document that the cell holds this is the body's length
    is_length : (cell : Cell) → HoldsOpenCellIn format number (bytes_at q size content) cell → len ≡ length (cell_body_in format number cell)
    is_length cell holds =
        let short = fits_there format q size number content cell holds in
        let first : head ≡ open_gate ∷ to_le_bytes w32 (length (cell_body_in format number cell)) =
        sym heads ∙ ap (λ (l : List ℕ). take 5 l) holds.split ∙ refl in
        let same : to_le_bytes w32 len ≡ to_le_bytes w32 (length (cell_body_in format number cell)) = ap (λ (l : List ℕ). drop 1 l) (sym head_is ∙ first) in
        sym (from_le_bytes-to_le_bytes_4 len low) ∙ ap (λ (l : List ℕ). from_le_bytes w32 l) same ∙ from_le_bytes-to_le_bytes_4 (length (cell_body_in format number cell)) (omega (arith, short, small))

    open_cell : ((cell : Cell) → ¬ HoldsOpenCellIn format number (bytes_at q size content) cell) → (cell : Option Cell) → ¬ HoldsCellIn format q size number content cell
    open_cell none None holds = holds (gate_read ∙ gate)
    open_cell none (Some cell) holds = none cell holds

    -- a length that passes the end
    pub long_damaged : size - 5 < len → (cell : Option Cell) → ¬ HoldsCellIn format q size number content cell
    long_damaged long = open_cell (λ cell holds. absurd (omega (arith, long, is_length cell holds, fits_there format q size number content cell holds)))

    module _ (fits : len ≤ size - 5) (body : List ℕ) (body_read : body ≡ take len (drop (q + 5) content)) where
      body_there : take len (drop 5 (bytes_at q size content)) ≡ body
      body_there = ap (λ (l : List ℕ). take len l) behind ∙ take-take len (size - 5) (drop (q + 5) content) fits ∙ sym body_read

      body_long : length body ≡ len
      body_long = omega (arith, ap (length {A = ℕ}) body_read, length-take len (drop (q + 5) content), length-drop (q + 5) content, within, large, fits)

      -- a body that spells no milestone
      pub body_damaged : ((cell : Cell) → IsCellIn format number cell → body ≡ cell_body_in format number cell → ⊥) → (cell : Option Cell) → ¬ HoldsCellIn format q size number content cell
      body_damaged none = open_cell (λ cell holds.
          let rest : drop 5 (bytes_at q size content) ≡ cell_body_in format number cell ++ holds.rest = ap (λ (l : List ℕ). drop 5 l) holds.split in
          none cell holds.is (sym body_there ∙ ap (λ (l : List ℕ). take len l) rest ∙ take_at (cell_body_in format number cell) holds.rest len (sym (is_length cell holds))))

      pub body_found : (cell : Cell) → IsCellIn format number cell → body ≡ cell_body_in format number cell → HoldsCellIn format q size number content (Some cell)
      body_found cell is same =
          let whole : drop 5 (bytes_at q size content) ≡ body ++ drop len (drop 5 (bytes_at q size content)) =
          sym (take-append-drop len (drop 5 (bytes_at q size content))) ∙ ap (λ (l : List ℕ). l ++ drop len (drop 5 (bytes_at q size content))) body_there in
          let framed : head ++ body ≡ open_record body = ap (λ (l : List ℕ). l ++ body) (head_is ∙ ap (λ k. open_gate ∷ to_le_bytes w32 k) (sym body_long)) in
          record {
            is = is;
            rest = drop len (drop 5 (bytes_at q size content));
            split =
                sym (take-append-drop 5 (bytes_at q size content))
                ∙ ap (λ (l : List ℕ). l ++ drop 5 (bytes_at q size content)) heads
                ∙ ap (λ (l : List ℕ). head ++ l) whole
                ∙ sym (append_assoc head body (drop len (drop 5 (bytes_at q size content))))
                ∙ ap (λ (l : List ℕ). l ++ drop len (drop 5 (bytes_at q size content))) (framed ∙ ap open_record same);
          }
