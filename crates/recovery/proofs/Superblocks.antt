-- The 32 bytes of a superblock, and the shape that is read off them.
use Rattle.std.proofs.Common.{◌≡◌, ℕ, ◌+◌, ◌<◌, ◌≤◌, ◌^◌, true, List, ◌++◌, length, take, drop, get_or, refl, sym, ◌∙◌, ap, inl, inr, arith, take-append-drop, length-take, length-drop}
use Rattle.std.specs.Int.{w32, to_le_bytes, from_le_bytes}
use Rattle.std.proofs.lemmas.Bool.Decides.{nat_tests}
use Rattle.std.proofs.lemmas.Bool.{cases_lt}
use Rattle.std.proofs.lemmas.Nat.{le_bytes_4, from_le_bytes-to_le_bytes_4}
use Rattle.std.proofs.lemmas.List.{drop-drop, drop_all, append-nil, get_or-take, get_or-drop, get_or_past}
use Rattle.recovery.specs.declared.shape.Shape.{Shape}
use Rattle.milestone.specs.declared.format.Format.{Format}
use Rattle.milestone.specs.declared.format.Format.TheVariants.{One, Two}
use Rattle.recovery.specs.Shape.{is_in_range, letters, superblock_in}

-- the numbers of a shape in range
pub record Ranges (shape : Shape) : Type 0 where
  pub slots_low : 2 ≤ shape.slots
  pub slots : shape.slots ≤ 1024
  pub slot_low : 256 ≤ shape.slot
  pub slot : shape.slot ≤ 16777216
  pub docs_low : 1 ≤ shape.docs
  pub docs : shape.docs ≤ 65536
  pub cell_low : 256 ≤ shape.cell
  pub cell : shape.cell ≤ 16777216
  pub sources_low : 1 ≤ shape.sources
  pub sources : shape.sources ≤ 4096
  pub keep_low : 1 ≤ shape.keep
  pub keep : shape.keep ≤ 65536

pub ranges_of : (shape : Shape) → is_in_range shape ≡ true → Ranges shape
ranges_of shape is = record {
  slots_low = grind (arith, nat_tests);
  slots = grind (arith, nat_tests);
  slot_low = grind (arith, nat_tests);
  slot = grind (arith, nat_tests);
  docs_low = grind (arith, nat_tests);
  docs = grind (arith, nat_tests);
  cell_low = grind (arith, nat_tests);
  cell = grind (arith, nat_tests);
  sources_low = grind (arith, nat_tests);
  sources = grind (arith, nat_tests);
  keep_low = grind (arith, nat_tests);
  keep = grind (arith, nat_tests);
}

-- what is below 256 at each place is so within a part
part_fits : (bytes : List ℕ) (k : ℕ) → ((i : ℕ) → get_or bytes i 0 < 256) → (i : ℕ) → get_or (take 4 (drop k bytes)) i 0 < 256
part_fits bytes k fits i = elim (cases_lt i 4) [
  | inl inside ↦ rw (get_or-take 4 (drop k bytes) i 0 inside, get_or-drop k bytes i 0) (fits (k + i))
  | inr past ↦ rw (get_or_past (take 4 (drop k bytes)) i 0 (omega (arith, length-take 4 (drop k bytes)))) (omega arith)
]

-- from place k on there are the bytes of the number that is read there, and the rest
number_first : (bytes : List ℕ) (k n : ℕ) → ((i : ℕ) → get_or bytes i 0 < 256) → k + 4 ≤ length bytes → n ≡ from_le_bytes w32 (take 4 (drop k bytes)) → drop k bytes ≡ to_le_bytes w32 n ++ drop (k + 4) bytes
number_first bytes k n fits long read =
    let len : length (take 4 (drop k bytes)) ≡ 4 = omega (arith, length-take 4 (drop k bytes), length-drop k bytes) in
    let spelled : to_le_bytes w32 n ≡ take 4 (drop k bytes) = le_bytes_4 (take 4 (drop k bytes)) n len (part_fits bytes k fits) read in
    sym (take-append-drop 4 (drop k bytes)) ∙ ap (λ (l : List ℕ). l ++ drop 4 (drop k bytes)) (sym spelled)
    ∙ ap (λ (l : List ℕ). to_le_bytes w32 n ++ l) (drop-drop 4 k bytes)

-- where the numbers of a shape stand, in either format
pub record HasNumbers (bytes : List ℕ) (shape : Shape) : Type 0 where
  pub slots : take 4 (drop 8 bytes) ≡ to_le_bytes w32 shape.slots
  pub slot : take 4 (drop 12 bytes) ≡ to_le_bytes w32 shape.slot
  pub docs : take 4 (drop 16 bytes) ≡ to_le_bytes w32 shape.docs
  pub cell : take 4 (drop 20 bytes) ≡ to_le_bytes w32 shape.cell
  pub sources : take 4 (drop 24 bytes) ≡ to_le_bytes w32 shape.sources
  pub keep : take 4 (drop 28 bytes) ≡ to_le_bytes w32 shape.keep

pub has_numbers : (format : Format) (shape : Shape) → HasNumbers (superblock_in format shape) shape
has_numbers One shape = record { slots = refl; slot = refl; docs = refl; cell = refl; sources = refl; keep = refl }
has_numbers Two shape = record { slots = refl; slot = refl; docs = refl; cell = refl; sources = refl; keep = refl }

-- before them stand the letters
pub letters_first : (format : Format) (shape : Shape) → take 8 (superblock_in format shape) ≡ letters format
letters_first One shape = refl
letters_first Two shape = refl

module _ (format : Format) (bytes : List ℕ) (shape : Shape) (long : length bytes ≡ 32) (fits : (i : ℕ) → get_or bytes i 0 < 256)
    (slots : shape.slots ≡ from_le_bytes w32 (take 4 (drop 8 bytes))) (slot : shape.slot ≡ from_le_bytes w32 (take 4 (drop 12 bytes)))
    (docs : shape.docs ≡ from_le_bytes w32 (take 4 (drop 16 bytes))) (cell : shape.cell ≡ from_le_bytes w32 (take 4 (drop 20 bytes)))
    (sources : shape.sources ≡ from_le_bytes w32 (take 4 (drop 24 bytes))) (keep : shape.keep ≡ from_le_bytes w32 (take 4 (drop 28 bytes))) where
  -- the bytes are those of the shape that is read
  pub read_is_spelled : take 8 bytes ≡ letters format → bytes ≡ superblock_in format shape
  read_is_spelled first =
      let last : drop 28 bytes ≡ to_le_bytes w32 shape.keep =
      number_first bytes 28 shape.keep fits (omega arith) keep ∙ ap (λ (l : List ℕ). to_le_bytes w32 shape.keep ++ l) (drop_all 32 bytes (omega arith)) ∙ append-nil (to_le_bytes w32 shape.keep) in
      sym (take-append-drop 8 bytes) ∙ ap (λ (l : List ℕ). l ++ drop 8 bytes) first
      ∙ ap (λ (l : List ℕ). letters format ++ l) (number_first bytes 8 shape.slots fits (omega arith) slots
      ∙ ap (λ (l : List ℕ). to_le_bytes w32 shape.slots ++ l) (number_first bytes 12 shape.slot fits (omega arith) slot
      ∙ ap (λ (l : List ℕ). to_le_bytes w32 shape.slot ++ l) (number_first bytes 16 shape.docs fits (omega arith) docs
      ∙ ap (λ (l : List ℕ). to_le_bytes w32 shape.docs ++ l) (number_first bytes 20 shape.cell fits (omega arith) cell
      ∙ ap (λ (l : List ℕ). to_le_bytes w32 shape.cell ++ l) (number_first bytes 24 shape.sources fits (omega arith) sources
      ∙ ap (λ (l : List ℕ). to_le_bytes w32 shape.sources ++ l) last)))))

  -- and no other shape in range has them
  pub spelled_is_read : (other : Shape) → Ranges other → bytes ≡ superblock_in format other → shape ≡ other
  spelled_is_read other in_range same =
      let has = has_numbers format other in
      let number : (k n : ℕ) → n < 2 ^ 32 → take 4 (drop k (superblock_in format other)) ≡ to_le_bytes w32 n → from_le_bytes w32 (take 4 (drop k bytes)) ≡ n =
      λ k n small there. ap (λ (l : List ℕ). from_le_bytes w32 (take 4 (drop k l))) same ∙ ap (λ (l : List ℕ). from_le_bytes w32 l) there ∙ from_le_bytes-to_le_bytes_4 n small in
      let a = slots ∙ number 8 other.slots (omega (arith, in_range.slots)) has.slots in
      let b = slot ∙ number 12 other.slot (omega (arith, in_range.slot)) has.slot in
      let c = docs ∙ number 16 other.docs (omega (arith, in_range.docs)) has.docs in
      let d = cell ∙ number 20 other.cell (omega (arith, in_range.cell)) has.cell in
      let e = sources ∙ number 24 other.sources (omega (arith, in_range.sources)) has.sources in
      let f = keep ∙ number 28 other.keep (omega (arith, in_range.keep)) has.keep in
      λ i. record { slots = a i; slot = b i; docs = c i; cell = d i; sources = e i; keep = f i }
