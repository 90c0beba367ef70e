-- A store may begin with the documents of another one, under limits that have room for them, and then its state agrees with that one's.
use Rattle.std.proofs.Common.{◌≡◌, ℕ, zero, suc, Option, None, ◌-◌, ◌≤◌, true, List, [], ◌∷◌, length, map, Some, refl, sym, ◌∙◌, ap, subst, arith}
use Rattle.std.specs.Prelude.{slice_get, get_or}
use Rattle.std.proofs.lemmas.List.{length-map, drop_all}
use Rattle.std.proofs.lemmas.Option.{slice_get_within, slice_get-get_or}
use Rattle.delta.specs.Element.{Element}
use Rattle.revision.specs.Sources.{Sources}
use Rattle.revision.specs.Past.{Past, newest, content_at, sources_at, from_floor}
use Rattle.revision.specs.State.{Limits, DocumentRecord, State, weight_of, newest_revision}
use Rattle.revision.specs.Agree.{DocumentsAgree, PlacesAgree, Agree, floor_of}
use Rattle.revision.specs.Invariants.{IsLimits, IsPast, IsState, KeepsAt}
use Rattle.revision.proofs.CallerLemmas.{from_itself, agree_through}
use Rattle.history.specs.Cell.{Cell, CellKeeps, record_of_cell}
use Rattle.history.specs.Law.{begun_with}
use Rattle.recovery.specs.declared.shape.Shape.{Shape}
use Rattle.recovery.specs.Shape.{is_in_range}
use Rattle.recovery.specs.Found.{limits_of}
use Rattle.recovery.specs.Formatting.{MayBegin}
use Rattle.recovery.specs.Open.{newest_cell}
use Rattle.recovery.proofs.Superblocks.{ranges_of}
use Rattle.migration.specs.Migrated.{AreSpelled}
use Rattle.migration.specs.Copied.{AreCopied, HasRoom, IsCopied}
use Rattle.migration.proofs.Begun.{there_is, from_map, alone}
use Rattle.history.proofs.CallerLemmas.{cell-content, cell-sources}

-- ---- one document

-- what a document holds that begins with a cell is what the cell holds
whole : (cell : Cell) → newest (record_of_cell cell).past ≡ cell.revision
whole cell = omega arith

-- a past from its newest revision on
newest_alone : (past : Past)
    → ◌≡◌ {A = Past} (record { floor = newest past; content = content_at past (newest past); sources = sources_at past (newest past); changes = [] }) (from_floor past (newest past))
newest_alone past =
    let left = drop_all (newest past - past.floor) past.changes (omega arith) in
    λ i. record { floor = newest past; content = content_at past (newest past); sources = sources_at past (newest past); changes = sym left i }

-- the document that begins with another one's newest revision agrees with it
copy_agrees : (found : DocumentRecord) → DocumentsAgree (record_of_cell (newest_cell found)) found
copy_agrees found = record {
  name = refl;
  revision = omega arith;
  content = cell-content (newest_cell found);
  sources = cell-sources (newest_cell found);
  past = λ floor over under within.
      let same : newest found.past ≡ floor = omega (arith, over, within) in
      subst (λ f. from_floor (record_of_cell (newest_cell found)).past f ≡ from_floor found.past f) same
      (from_itself (record_of_cell (newest_cell found)).past ∙ newest_alone found.past);
}

-- ---- all of them

places_agree : (start : List Cell) (documents : List DocumentRecord) → length start ≡ length documents
    → ((number : ℕ) (document : DocumentRecord) (cell : Cell) → slice_get documents number ≡ Some document → slice_get start number ≡ Some cell → cell ≡ newest_cell document)
    → (number : ℕ) → PlacesAgree (slice_get (map record_of_cell start) number) (slice_get documents number)
places_agree [] [] same each number = tt
places_agree [] (document ∷ documents) same each number = absurd (omega (arith, same))
places_agree (cell ∷ start) [] same each number = absurd (omega (arith, same))
places_agree (cell ∷ start) (document ∷ documents) same each zero =
    subst (λ (c : Cell). DocumentsAgree (record_of_cell c) document) (sym (each 0 document cell refl refl)) (copy_agrees document)
places_agree (cell ∷ start) (document ∷ documents) same each (suc number) =
    places_agree start documents (omega (arith, same)) (λ k found one there is. each (suc k) found one there is) number

pub copies_agree : (limits : Limits) (state : State) (start : List Cell) → AreCopied state start → Agree (begun_with limits start) (record state { limits = limits })
copies_agree limits state start copies = record { limits = refl; documents = places_agree start state.documents copies.count copies.each }

-- its past begins with the newest revisions
pub begins_newest : (start : List Cell) (number : ℕ) → floor_of (slice_get (map record_of_cell start) number) ≡ newest_revision (slice_get (map record_of_cell start) number)
begins_newest [] number = refl
begins_newest (cell ∷ start) zero = omega arith
begins_newest (cell ∷ start) (suc number) = begins_newest start number

-- ---- told of a state that agrees

reached : (copy read : Option DocumentRecord) → PlacesAgree copy read → floor_of read ≤ newest_revision copy
reached None None agree = omega arith
reached None (Some read) agree = absurd agree
reached (Some copy) None agree = absurd agree
reached (Some copy) (Some read) agree = omega (arith, agree.revision)

pub as_agreeing : (shape : Shape) (read state : State) (content : List ℕ) → Agree read state → IsCopied shape read content → IsCopied shape state content
as_agreeing shape read state content agree is = record {
  names = is.names;
  copy = is.copy;
  found = is.found;
  agrees = agree_through is.copy (record read { limits = limits_of shape }) (record state { limits = limits_of shape })
      (λ number. omega (arith, is.newest number, reached (slice_get is.copy.documents number) (slice_get read.documents number) (is.agrees.documents number)))
      is.agrees (record { limits = refl; documents = agree.documents });
  newest = is.newest;
}

-- ---- a store may begin so

-- what documents weigh depends on nothing of the limits but what a further number of a window weighs
same_weight : (one other : Limits) (units : List Element) (sources : Sources) → one.retry ≡ other.retry → weight_of one units sources ≡ weight_of other units sources
same_weight one other units sources same = ap (λ (r : ℕ). weight_of (record one { retry = r }) units sources) same

kept : (limits old : Limits) (document : DocumentRecord) → old.retry ≡ limits.retry → old.weight ≤ limits.weight → old.sources ≤ limits.sources
    → IsPast old document.past → CellKeeps limits (newest_cell document)
kept limits old document retry weight sources is = record {
  first = is.first;
  last = is.last;
  count = omega (arith, at.count, sources);
  sources = at.sources;
  content = at.content;
  mark = at.mark;
  weight = omega (arith, at.weight, weight, same_weight old limits (content_at document.past (newest document.past)).units (sources_at document.past (newest document.past)) retry);
}
  where
    at : KeepsAt old document.past (newest document.past)
    at = is.each (newest document.past) (omega arith) (omega arith)

module _ (shape : Shape) (state : State) (start : List Cell) (is : IsState state) (retry : state.limits.retry ≡ 8) (room : HasRoom state.limits shape)
    (in_range : is_in_range shape ≡ true) (copies : AreCopied state start) where
  are : IsLimits (limits_of shape)
  are =
      let ranges = ranges_of shape in_range in
      record {
        some_document = ranges.docs_low;
        docs = ranges.docs;
        some_source = ranges.sources_low;
        sources = ranges.sources;
        weight = omega (arith, ranges.cell);
        width = omega (arith, ranges.slot);
        some_revision = ranges.keep_low;
        keep = ranges.keep;
        retry = omega arith;
      }

  -- the document that a cell was copied from
  from : (number : ℕ) (cell : Cell) → slice_get start number ≡ Some cell → (document : DocumentRecord) × (slice_get state.documents number ≡ Some document)
  from number cell there = there_is state.documents number (omega (arith, slice_get_within start number cell there, copies.count))

  copied_from : (number : ℕ) (cell : Cell) (there : slice_get start number ≡ Some cell) → cell ≡ newest_cell (from number cell there).0
  copied_from number cell there = copies.each number (from number cell there).0 cell (from number cell there).1 there

  each_kept : (number : ℕ) (cell : Cell) → slice_get start number ≡ Some cell → CellKeeps (limits_of shape) cell
  each_kept number cell there =
      let document = from number cell there in
      subst (CellKeeps (limits_of shape)) (sym (copied_from number cell there))
      (kept (limits_of shape) state.limits document.0 retry (omega (arith, room.cell)) room.sources (is.each number document.0 document.1))

  name_of : (number : ℕ) (cell : Cell) (there : slice_get start number ≡ Some cell) → cell.name ≡ (from number cell there).0.name
  name_of number cell there = ap (λ (c : Cell). c.name) (copied_from number cell there)

  begun : IsState (begun_with (limits_of shape) start)
  begun = record {
    limits = are;
    count = omega (arith, length-map start record_of_cell, copies.count, is.count, room.docs);
    names = λ i j a b here there same.
        let one = from_map start i a here in
        let other = from_map start j b there in
        is.names i j (from i one.0 one.1).0 (from j other.0 other.1).0 (from i one.0 one.1).1 (from j other.0 other.1).1
        (sym (name_of i one.0 one.1) ∙ (ap (λ (d : DocumentRecord). d.name) one.2 ∙ (same ∙ (sym (ap (λ (d : DocumentRecord). d.name) other.2) ∙ name_of j other.0 other.1))));
    each = λ number found here.
        let one = from_map start number found here in
        subst (λ (d : DocumentRecord). IsPast (limits_of shape) d.past) one.2 (alone (limits_of shape) one.0 are (each_kept number one.0 one.1));
  }

  pub may_begin_copied : AreSpelled start → MayBegin shape start
  may_begin_copied spelled = record {
    state = begun;
    keep = λ k d inside. each_kept k (get_or start k d) (slice_get-get_or start k d inside);
    spelled = spelled;
  }
