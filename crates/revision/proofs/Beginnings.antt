-- The way to a revision from a document that is kept.
use Rattle.std.proofs.Common.{◌≡◌, ℕ, ◌+◌, ◌-◌, ◌≤◌, List, take, drop, refl, sym, ap, subst, ◌∙◌, arith}
use Rattle.std.proofs.lemmas.List.{take-take, drop-take, drop-drop}
use Rattle.delta.specs.Element.{Element}
use Rattle.compose.specs.Many.{applied}
use Rattle.revision.specs.declared.past.kept_document.Kept.{Kept}
use Rattle.revision.specs.Past.{Parts, AreParts, AreKept, AreNoted, Prepared, StandInTurn, newest, newest_units, newest_sources, sources_after, changes_by, seen}
use Rattle.revision.proofs.Parts.{seen-newest, document_is, changes-take}
use Rattle.revision.proofs.Replaying.{replay_sources}
use Rattle.revision.proofs.Replays.{stand-take, stand-drop}
use Rattle.revision.proofs.KeptDocuments.{applied-parts}

module _ (parts : Parts) (is : AreParts parts) (from : ℕ) (base : List Element) (above : parts.start ≤ from)
    (base_is : base ≡ applied parts.units (take (from - parts.start) parts.deltas)) where
  -- the deltas after it stand on it
  pub begin_stand : StandInTurn base (drop (from - parts.start) parts.deltas)
  begin_stand =
      subst (λ d. StandInTurn d (drop (from - parts.start) parts.deltas)) (sym base_is) (stand-drop (from - parts.start) parts.units parts.deltas is.stand)

  -- and lead to what stands at the revision
  pub begin_applied : (revision : ℕ) → from ≤ revision
      → applied base (take (revision - from) (drop (from - parts.start) parts.deltas)) ≡ applied parts.units (take (revision - parts.start) parts.deltas)
  begin_applied revision below =
      ap (λ d. applied d (take (revision - from) (drop (from - parts.start) parts.deltas))) base_is
      ∙ applied-parts (from - parts.start) (revision - from) (revision - parts.start) parts.units parts.deltas (omega (arith, above, below))

  -- the same of those taken
  module _ (revision : ℕ) (below : from ≤ revision) (there : revision ≤ parts.start + parts.count) where
    pub taken_stand : StandInTurn base (take (parts.count - (from - parts.start)) (drop (from - parts.start) parts.deltas))
    taken_stand = stand-take (parts.count - (from - parts.start)) base (drop (from - parts.start) parts.deltas) begin_stand

    pub taken_before : applied base (take (revision - from) (take (parts.count - (from - parts.start)) (drop (from - parts.start) parts.deltas)))
        ≡ applied parts.units (take (revision - parts.start) (take parts.count parts.deltas))
    taken_before =
        ap (applied base) (take-take (revision - from) (parts.count - (from - parts.start)) (drop (from - parts.start) parts.deltas) (omega (arith, above, below, there)))
        ∙ (begin_applied revision below ∙ ap (applied parts.units) (sym (take-take (revision - parts.start) parts.count parts.deltas (omega (arith, above, below, there)))))

    pub taken_after : drop (revision - from) (take (parts.count - (from - parts.start)) (drop (from - parts.start) parts.deltas))
        ≡ drop (revision - parts.start) (take parts.count parts.deltas)
    taken_after =
        let first : ℕ = from - parts.start in
        let more : ℕ = revision - from in
        let left : ℕ = parts.count - (revision - parts.start) in
        let slice : parts.count - first ≡ more + left = omega (arith, above, below, there) in
        let place : first + more ≡ revision - parts.start = omega (arith, above, below) in
        let all : (revision - parts.start) + left ≡ parts.count = omega (arith, above, below, there) in
        ap (λ n. drop more (take n (drop first parts.deltas))) slice
        ∙ (drop-take more left (drop first parts.deltas)
        ∙ (ap (take left) (drop-drop more first parts.deltas ∙ ap (λ n. drop n parts.deltas) place)
        ∙ (sym (drop-take (revision - parts.start) left parts.deltas) ∙ ap (λ n. drop (revision - parts.start) (take n parts.deltas)) all)))

-- the parts with other documents that are kept
pub with_kept : (parts : Parts) → AreParts parts → (kept : List Kept) → AreKept parts.start parts.count parts.units parts.deltas kept
    → AreNoted parts.start parts.sources (changes_by parts.takers parts.deltas) kept → AreParts (record parts { kept = kept })
with_kept parts is kept are noted = record {
  stand = is.stand;
  short = is.short;
  same = is.same;
  content = is.content;
  lead = is.lead;
  count = is.count;
  start = is.start;
  floor = is.floor;
  held = is.held;
  revision = is.revision;
  kept = are;
  noted = noted;
}

-- what stands at the newest revision
pub newest_there : (parts : Parts) → AreParts parts → (now : Prepared) → seen parts ≡ now → (n : ℕ) → n ≡ parts.start + parts.count
    → newest_units now.past ≡ applied parts.units (take (n - parts.start) parts.deltas)
newest_there parts is now same n n_is =
    let top : newest now.past ≡ parts.start + parts.count = ap (λ (p : Prepared). newest p.past) (sym same) ∙ seen-newest parts is in
    let low : now.past.floor ≡ parts.floor = ap (λ (p : Prepared). p.past.floor) (sym same) in
    let place : newest now.past - parts.start ≡ n - parts.start = omega (arith, top, n_is) in
    sym (document_is parts is now same (newest now.past) (omega (arith, top, low, is.floor)) (omega arith) parts.deltas refl)
    ∙ ap (λ m. applied parts.units (take m parts.deltas)) place

pub newest_noted : (parts : Parts) → AreParts parts → (now : Prepared) → seen parts ≡ now → (n : ℕ) → n ≡ parts.start + parts.count
    → newest_sources now.past ≡ sources_after parts.start parts.sources (take (n - parts.start) (changes_by parts.takers parts.deltas))
newest_noted parts is now same n n_is =
    let top : newest now.past ≡ parts.start + parts.count = ap (λ (p : Prepared). newest p.past) (sym same) ∙ seen-newest parts is in
    let low : now.past.floor ≡ parts.floor = ap (λ (p : Prepared). p.past.floor) (sym same) in
    let place : newest now.past - parts.start ≡ n - parts.start = omega (arith, top, n_is) in
    sym (replay_sources parts is now same (newest now.past) (omega (arith, top, low, is.floor)) (omega arith))
    ∙ ap (sources_after parts.start parts.sources)
    (changes-take (newest now.past - parts.start) parts.takers parts.deltas ∙ ap (λ m. take m (changes_by parts.takers parts.deltas)) place)
