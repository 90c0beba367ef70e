-- What is read of one slot after another.
use Rattle.std.proofs.Common.{◌≡◌, inl, inr, ℕ, ◌+◌, ◌*◌, ◌<◌, Option, None, List, [], ◌∷◌, ◌++◌, length, take, drop, sym, subst, arith}
use Rattle.std.proofs.lemmas.Bool.{cases_lt}
use Rattle.std.proofs.lemmas.List.{get_or_append_left, get_or_push}
use Rattle.segments.specs.declared.reading.ReadSegment.{ReadSegment}
use Rattle.segments.specs.Slot.{Segment, HoldsSlot}
use Rattle.segments.specs.Table.{slot_place, slot_bytes}
use Rattle.segments.specs.steps.Reading.{segment_of, KnowsArea, KnowsNext, read_of, AreRead, KnowAreas, IsDamaged}

-- a slot that holds nothing that a slot may hold
pub damaged_here : (at size count slot : ℕ) (content there : List ℕ) → there ≡ content → slot < count → ((x : Option Segment) → ¬ HoldsSlot (take size (drop (at + slot * size) there)) x) → IsDamaged at size count content
damaged_here at size count slot content there same inside none = record {
  slot = slot;
  inside = inside;
  holds_none = λ x holds. none x (subst (λ (l : List ℕ). HoldsSlot (take size (drop (at + slot * size) l)) x) (sym same) holds);
}

module _ (slots : List (Option ReadSegment)) (read : Option ReadSegment) (count : ℕ) (long : length slots ≡ count) where
  -- what is true of each slot so far, and of the one that was just read
  pub each_more : (P : ℕ → Option ReadSegment → Type 0) → ((slot : ℕ) → slot < count → P slot (read_of slots slot)) → P count read → (slot : ℕ) → slot < count + 1 → P slot (read_of (slots ++ read ∷ []) slot)
  each_more P each here slot below = elim (cases_lt slot count) [
    | inl before ↦ subst (P slot) (sym (get_or_append_left slots (read ∷ []) None slot (omega (arith, before, long)))) (each slot before)
    | inr from ↦
        let is : count ≡ slot = omega (arith, below, from) in
        subst (λ n. P n (read_of (slots ++ read ∷ []) n)) is (subst (P count) (sym (get_or_push slots read None count long)) here)
  ]

pub read_more : (at size : ℕ) (content there : List ℕ) (slots : List (Option ReadSegment)) (read : Option ReadSegment) (count : ℕ) → length slots ≡ count → there ≡ content → AreRead at size content slots count
    → HoldsSlot (take size (drop (at + count * size) there)) (segment_of read) → KnowsNext read → AreRead at size content (slots ++ read ∷ []) (count + 1)
read_more at size content there slots read count long same each holds next =
    each_more slots read count long (λ slot x. HoldsSlot (slot_bytes at size content slot) (segment_of x) × KnowsNext x) each
    (subst (λ (l : List ℕ). HoldsSlot (take size (drop (at + count * size) l)) (segment_of read)) same holds, next)

pub areas_more : (at size : ℕ) (slots : List (Option ReadSegment)) (read : Option ReadSegment) (count : ℕ) → length slots ≡ count → KnowAreas at size slots count → KnowsArea (at + count * size) size read
    → KnowAreas at size (slots ++ read ∷ []) (count + 1)
areas_more at size slots read count long each here = each_more slots read count long (λ slot x. KnowsArea (slot_place at size slot) size x) each here
