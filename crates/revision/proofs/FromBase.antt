-- What leads to a revision that is held, from what stands at an earlier one on.
use Rattle.std.proofs.Common.{◌≡◌, ℕ, ◌+◌, ◌-◌, ◌≤◌, List, length, take, drop, refl, sym, ap, subst, ◌∙◌, arith}
use Rattle.std.proofs.lemmas.List.{take-take, drop-take, take_all, length-drop}
use Rattle.delta.specs.Element.{Element}
use Rattle.delta.specs.Operation.{Operation}
use Rattle.compose.specs.Many.{applied}
use Rattle.revision.specs.Past.{Prepared, Parts, AreParts, StandInTurn, newest, content_at, deltas_above, seen}
use Rattle.revision.specs.Replay.{IsReplay}
use Rattle.revision.proofs.Kept.{stand-between}
use Rattle.revision.proofs.KeptDocuments.{applied-parts}
use Rattle.revision.proofs.Parts.{seen-deltas, above_floor, below_newest, document_is}

-- a slice of the deltas from a place on
pub slice-from : {A : Type 0} (n : ℕ) (xs : List A) → take (length xs - n) (drop n xs) ≡ drop n xs
slice-from n xs = take_all (length xs - n) (drop n xs) (omega (arith, length-drop n xs))

-- what is kept, from a revision on that is held
module _ (parts : Parts) (is : AreParts parts) (now : Prepared) (same : seen parts ≡ now) (base revision : ℕ) (held : now.past.floor ≤ base) (below : base ≤ revision)
    (there : revision ≤ newest now.past) where
  pub base_there : base ≤ newest now.past
  base_there = omega (arith, below, there)

  above_start : parts.start ≤ base
  above_start = omega (arith, is.start, above_floor parts is now same base held base_there)

  within : revision ≤ parts.start + parts.count
  within = below_newest parts is now same revision (omega (arith, held, below)) there

  -- the deltas of the revisions after it
  pub base_deltas : drop (base - parts.start) (take (revision - parts.start) parts.deltas) ≡ take (revision - base) (deltas_above now.past base)
  base_deltas =
      let a : ℕ = base - parts.start in
      let m : ℕ = revision - base in
      let left : ℕ = parts.count - a in
      let upto : revision - parts.start ≡ a + m = omega (arith, below, above_start) in
      let all : parts.count ≡ a + left = omega (arith, above_start, below, within) in
      let whole : deltas_above now.past base ≡ take left (drop a parts.deltas) =
      sym (ap (λ (p : Prepared). deltas_above p.past base) same)
      ∙ (seen-deltas parts is base (above_floor parts is now same base held base_there)
      ∙ (ap (λ n. drop a (take n parts.deltas)) all ∙ drop-take a left parts.deltas)) in
      ap (λ n. drop a (take n parts.deltas)) upto
      ∙ (drop-take a m parts.deltas ∙ sym (ap (take m) whole ∙ take-take m left (drop a parts.deltas) (omega (arith, upto, all, within, above_start))))

  -- what stands there
  base_units : applied parts.units (take (base - parts.start) parts.deltas) ≡ (content_at now.past base).units
  base_units = document_is parts is now same base held base_there parts.deltas refl

  -- they stand on it
  pub base_stand : StandInTurn (content_at now.past base).units (drop (base - parts.start) (take (revision - parts.start) parts.deltas))
  base_stand =
      subst (λ units. StandInTurn units (drop (base - parts.start) (take (revision - parts.start) parts.deltas)))
      (ap (applied parts.units) (take-take (base - parts.start) (revision - parts.start) parts.deltas (omega (arith, below))) ∙ base_units)
      (stand-between (base - parts.start) (revision - parts.start) parts.units parts.deltas is.stand)

  -- what they make of it is what stands at the revision
  pub base_applied : applied (content_at now.past base).units (drop (base - parts.start) (take (revision - parts.start) parts.deltas)) ≡ (content_at now.past revision).units
  base_applied =
      let a : ℕ = base - parts.start in
      let m : ℕ = revision - base in
      let upto : revision - parts.start ≡ a + m = omega (arith, below, above_start) in
      ap (λ d. applied d (drop a (take (revision - parts.start) parts.deltas))) (sym base_units)
      ∙ (ap (λ n. applied (applied parts.units (take a parts.deltas)) (drop a (take n parts.deltas))) upto
      ∙ (ap (applied (applied parts.units (take a parts.deltas))) (drop-take a m parts.deltas)
      ∙ (applied-parts a m (revision - parts.start) parts.units parts.deltas upto
      ∙ document_is parts is now same revision (omega (arith, held, below)) there parts.deltas refl)))

  -- so they are what the revision is made of
  pub base_replay : (units : List Element) (deltas : List (List Operation)) → units ≡ (content_at now.past base).units
      → deltas ≡ drop (base - parts.start) (take (revision - parts.start) parts.deltas) → IsReplay now.past revision units deltas
  base_replay units deltas content between = record { base = base; held = held; below = below; content = content; between = between ∙ base_deltas }
