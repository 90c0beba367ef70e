-- A store of the second format may begin with the documents of one of the first format, whose sources have their last numbers alone.
use Rattle.std.proofs.Common.{◌≡◌, ℕ, zero, suc, ◌≤◌, true, List, [], ◌∷◌, length, map, Some, refl, sym, ◌∙◌, ap, subst, arith}
use Rattle.std.specs.Prelude.{slice_get, get_or}
use Rattle.std.proofs.lemmas.List.{length-map}
use Rattle.std.proofs.lemmas.Option.{slice_get_within, slice_get-get_or}
use Rattle.document.specs.Weight.{weight_of}
use Rattle.revision.specs.Window.{Window}
use Rattle.revision.specs.Past.{Content, is_content, newest, sources_at}
use Rattle.revision.specs.Sources.{cut, total_of}
use Rattle.revision.specs.State.{Limits, DocumentRecord, State, is_mark_at, are_sources, window_weight}
use Rattle.revision.specs.Invariants.{IsLimits, IsPast, IsState, KeepsAt}
use Rattle.revision.proofs.CallerLemmas.{cut_stays, cut_weighs}
use Rattle.history.specs.Cell.{Cell, CellKeeps, record_of_cell}
use Rattle.history.specs.Law.{begun_with}
use Rattle.milestone.specs.declared.format.Format.TheVariants.{One}
use Rattle.recovery.specs.declared.shape.Shape.{Shape}
use Rattle.recovery.specs.Found.{limits_in, limits_of}
use Rattle.recovery.specs.Formatting.{MayBegin}
use Rattle.migration.specs.Migrated.{IsCutTo, AreCut, AreSpelled}
pub use Rattle.history.proofs.CallerLemmas.{cell-past as alone, some-there as there_is}

-- ---- what stands in lists

pub from_map : (start : List Cell) (i : ℕ) (found : DocumentRecord) → slice_get (map record_of_cell start) i ≡ Some found
    → (cell : Cell) × (slice_get start i ≡ Some cell) × (record_of_cell cell ≡ found)
from_map [] i found is = absurd (cc)
from_map (first ∷ others) zero found is = let same : record_of_cell first ≡ found = cc in (first, refl, same)
from_map (first ∷ others) (suc i) found is = from_map others i found is

-- ---- one document

-- what a document that is cut keeps
kept : (limits free : Limits) (document : DocumentRecord) (cell : Cell) → limits.retry ≤ 64 → free.retry ≡ 0 → limits.weight ≡ free.weight → limits.sources ≡ free.sources
    → IsPast free document.past → IsCutTo document cell → CellKeeps limits cell
kept limits free document cell low none weight sources is to = record {
  first = omega (arith, to.revision, is.first);
  last = omega (arith, to.revision, is.last);
  count = omega (arith, ap (length {A = List ℕ × Window}) to.sources, length-map (sources_at document.past (newest document.past)).entries cut, at.count, sources);
  sources = subst (λ n. are_sources n cell.sources.entries ≡ true) (sym to.revision)
      (subst (λ es. are_sources (newest document.past) es ≡ true) (sym to.sources) (cut_stays (newest document.past) (sources_at document.past (newest document.past)).entries at.sources));
  content = subst (λ (c : Content). is_content c ≡ true) (sym to.content) at.content;
  mark = subst (λ n. is_mark_at cell.content.live n ≡ true) (sym to.revision)
      (subst (λ (c : Content). is_mark_at c.live (newest document.past) ≡ true) (sym to.content) at.mark);
  weight = omega (
    arith,
    at.weight,
    weight,
    ap (λ (c : Content). weight_of c.units) to.content,
    ap (total_of (window_weight limits)) to.sources,
    cut_weighs limits free (sources_at document.past (newest document.past)).entries low none,
  );
}
  where
    at : KeepsAt free document.past (newest document.past)
    at = is.each (newest document.past) (omega arith) (omega arith)

-- ---- all of them

module _ (shape : Shape) (state : State) (start : List Cell) (is : IsState state) (limits : state.limits ≡ limits_in One shape) (cuts : AreCut state start) where
  are : IsLimits (limits_of shape)
  are =
      let old : IsLimits (limits_in One shape) = subst IsLimits limits is.limits in
      record {
        some_document = old.some_document;
        docs = old.docs;
        some_source = old.some_source;
        sources = old.sources;
        weight = old.weight;
        width = old.width;
        some_revision = old.some_revision;
        keep = old.keep;
        retry = omega arith;
      }

  -- the document that a cell was cut from
  from : (number : ℕ) (cell : Cell) → slice_get start number ≡ Some cell → (document : DocumentRecord) × (slice_get state.documents number ≡ Some document)
  from number cell there = there_is state.documents number (omega (arith, slice_get_within start number cell there, cuts.count))

  each_kept : (number : ℕ) (cell : Cell) → slice_get start number ≡ Some cell → CellKeeps (limits_of shape) cell
  each_kept number cell there =
      let document = from number cell there in
      kept (limits_of shape) state.limits document.0 cell (omega arith) (ap (λ (l : Limits). l.retry) limits) (sym (ap (λ (l : Limits). l.weight) limits)) (sym (ap (λ (l : Limits). l.sources) limits))
      (is.each number document.0 document.1) (cuts.each number document.0 cell document.1 there)

  name_of : (number : ℕ) (cell : Cell) (there : slice_get start number ≡ Some cell) → cell.name ≡ (from number cell there).0.name
  name_of number cell there = (cuts.each number (from number cell there).0 cell (from number cell there).1 there).name

  begun : IsState (begun_with (limits_of shape) start)
  begun = record {
    limits = are;
    count = omega (arith, length-map start record_of_cell, cuts.count, is.count, ap (λ (l : Limits). l.docs) limits);
    names = λ i j a b here there same.
        let one = from_map start i a here in
        let other = from_map start j b there in
        is.names i j (from i one.0 one.1).0 (from j other.0 other.1).0 (from i one.0 one.1).1 (from j other.0 other.1).1
        (sym (name_of i one.0 one.1) ∙ (ap (λ (d : DocumentRecord). d.name) one.2 ∙ (same ∙ (sym (ap (λ (d : DocumentRecord). d.name) other.2) ∙ name_of j other.0 other.1))));
    each = λ number found here.
        let one = from_map start number found here in
        subst (λ (d : DocumentRecord). IsPast (limits_of shape) d.past) one.2 (alone (limits_of shape) one.0 are (each_kept number one.0 one.1));
  }

  pub may_begin : AreSpelled start → MayBegin shape start
  may_begin spelled = record {
    state = begun;
    keep = λ k d inside. each_kept k (get_or start k d) (slice_get-get_or start k d inside);
    spelled = spelled;
  }
