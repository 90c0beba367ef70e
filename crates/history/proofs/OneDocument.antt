-- A document read from a cell on, whichever it is, shows all its commands.
use Rattle.std.proofs.Common.{◌≡◌, ℕ, zero, suc, ◌+◌, ◌-◌, ◌≤◌, true, List, [], ◌∷◌, ◌++◌, length, take, drop, Option, Some, None, refl, sym, ap, subst, ◌∙◌, arith}
use Rattle.std.specs.Prelude.{min, nat_lt}
use Rattle.std.proofs.lemmas.Bool.{and_from, cond_both, le-leb, lt-ltb}
use Rattle.std.proofs.lemmas.List.{take-append-drop, length-take-le}
use Rattle.compose.specs.Many.{applied}
use Rattle.revision.specs.Command.{Taken}
use Rattle.revision.specs.Sources.{Sources, count_of}
use Rattle.delta.specs.Element.{Element}
use Rattle.revision.specs.Past.{Content, is_content, newest, sources_after}
use Rattle.revision.specs.State.{Limits, DocumentRecord, State, revision_of, newest_revision, content_of, sources_of, weight_of, is_mark_at, are_sources, all_continue, record_after_all}
use Rattle.revision.specs.Agree.{PlacesAgree}
use Rattle.revision.specs.Invariants.{IsLimits, IsPast, IsRecord}
use Rattle.revision.proofs.CallerLemmas.{agreeing_continue, continuing_keeps, empty_is_state, adopting_keeps}
use Rattle.history.specs.Entries.{above}
use Rattle.history.specs.Cell.{Cell, record_of_cell, Pair, Newer, Older, Pick, of_two, picked, lowest, OfOpen, OfBoth, CellKeeps}
use Rattle.history.specs.Shown.{whole_of, PlacesShow}
use Rattle.history.specs.Found.{started, unread, StandsFor}
use Rattle.history.specs.Running.{IsCellOf}
use Rattle.history.proofs.Showing.{places-itself, record-all, records-agree, whole-append, newest-shown, newest-all, newest-whole}
use Rattle.history.proofs.Counting.{continue-split, above-drop}

drop-past : {A : Type 0} (xs ys : List A) (n : ℕ) → length xs ≤ n → drop n (xs ++ ys) ≡ drop (n - length xs) ys
drop-past [] ys n le = ap (λ m. drop m ys) (whole n)
  where
    whole : (n : ℕ) → n ≡ n - 0
    whole n = omega arith
drop-past (x ∷ xs) ys zero le = absurd (omega (arith, le))
drop-past (x ∷ xs) ys (suc n) le = drop-past xs ys n (omega (arith, le)) ∙ ap (λ m. drop m ys) (less n (length xs))
  where
    less : (n m : ℕ) → n - m ≡ suc n - suc m
    less n m = omega arith

-- what a cell's record has at its revision is what the cell has
nothing : {A : Type 0} (n : ℕ) → ◌≡◌ {A = List A} (take n []) []
nothing zero = refl
nothing (suc n) = refl

cell-units : (cell : Cell) → (content_of (record_of_cell cell)).units ≡ cell.content.units
cell-units cell = ap (applied cell.content.units) (nothing (cell.revision + 0 - cell.revision))

pub cell-content : (cell : Cell) → content_of (record_of_cell cell) ≡ cell.content
cell-content cell = ap (λ (u : List Element). record { units = u; live = cell.content.live }) (cell-units cell)

pub cell-sources : (cell : Cell) → sources_of (record_of_cell cell) ≡ cell.sources
cell-sources cell = ap (sources_after cell.revision cell.sources) (nothing (cell.revision + 0 - cell.revision))

-- a cell that agrees with a document that keeps the limits keeps them
agreeing-keeps : (limits : Limits) (found : Option DocumentRecord) (cell : Cell) → IsRecord limits found → PlacesAgree found (Some (record_of_cell cell)) → CellKeeps limits cell
agreeing-keeps limits None cell past agree = absurd agree
agreeing-keeps limits (Some found) cell past agree =
    let number : revision_of found ≡ cell.revision + 0 = agree.revision in
    let here : revision_of found ≡ cell.revision = omega (arith, number) in
    let kept = past.each (newest found.past) (omega arith) (omega arith) in
    let content : content_of found ≡ cell.content = agree.content ∙ cell-content cell in
    let units : (content_of found).units ≡ cell.content.units = ap (λ (c : Content). c.units) content in
    let sources : sources_of found ≡ cell.sources = agree.sources ∙ cell-sources cell in
    record {
      first = omega (arith, past.first, here);
      last = omega (arith, past.last, here);
      count = subst (λ s. count_of s ≤ limits.sources) sources kept.count;
      sources = subst (λ r. are_sources r cell.sources.entries ≡ true) here (subst (λ (s : Sources). are_sources (revision_of found) s.entries ≡ true) sources kept.sources);
      content = subst (λ (c : Content). is_content c ≡ true) content kept.content;
      mark = subst (λ r. is_mark_at cell.content.live r ≡ true) here (subst (λ (c : Content). is_mark_at c.live (revision_of found) ≡ true) content kept.mark);
      weight = subst (λ u. weight_of limits u cell.sources ≤ limits.weight) units
          (subst (λ s. weight_of limits (content_of found).units s ≤ limits.weight) sources kept.weight);
    }

-- a cell that keeps the limits begins a past that keeps them
pub cell-past : (limits : Limits) (cell : Cell) → IsLimits limits → CellKeeps limits cell → IsPast limits (record_of_cell cell).past
cell-past limits cell is kept =
    let nothing : State = record { limits = limits; documents = [] } in
    let adopted = adopting_keeps nothing cell.name cell.content cell.revision cell.sources (empty_is_state limits is)
    (and_from _ _ (and_from _ _ (and_from _ _ (and_from _ _ (and_from _ _ (and_from _ _ (and_from _ _ (and_from _ _ (lt-ltb 0 limits.docs (omega (arith, is.some_document))) refl)
    kept.content) kept.mark) (le-leb _ _ kept.first)) (le-leb _ _ kept.last)) (le-leb _ _ kept.count)) kept.sources) (le-leb _ _ kept.weight)) in
    adopted.each 0 (record_of_cell cell) refl

pub started-kept : (limits : Limits) (cell : Option Cell) → IsLimits limits → OfOpen (CellKeeps limits) cell → IsRecord limits (started cell)
started-kept limits None is kept = tt
started-kept limits (Some cell) is kept = cell-past limits cell is kept

-- so many commands are passed over by what is read of a cell on: none where there is none
abbrev pub Covers : ℕ → Option Cell → Type 0
Covers count None = count ≡ 0
Covers count (Some cell) = count ≤ cell.revision

two-covers : (count : ℕ) (pick : Pick) (first second : Cell) → count ≤ min first.revision second.revision → count ≤ (of_two pick first second).revision
two-covers count Newer first second le =
    cond_both (nat_lt second.revision first.revision) first second (λ (c : Cell). count ≤ c.revision) (λ e. omega (arith, le)) (λ e. omega (arith, le))
two-covers count Older first second le =
    cond_both (nat_lt second.revision first.revision) second first (λ (c : Cell). count ≤ c.revision) (λ e. omega (arith, le)) (λ e. omega (arith, le))

pub picked-covers : (count : ℕ) (pick : Pick) (pair : Pair) → count ≤ lowest pair → Covers count (picked pick pair)
picked-covers count pick (None, None) le = omega (arith, le)
picked-covers count pick (None, Some second) le = le
picked-covers count pick (Some first, None) le = le
picked-covers count pick (Some first, Some second) le = two-covers count pick first second le

two-of : (P : Cell → Type 0) (pick : Pick) (first second : Cell) → P first → P second → P (of_two pick first second)
two-of P Newer first second p q = cond_both (nat_lt second.revision first.revision) first second P (λ e. p) (λ e. q)
two-of P Older first second p q = cond_both (nat_lt second.revision first.revision) second first P (λ e. q) (λ e. p)

pub picked-of : (P : Cell → Type 0) (pick : Pick) (pair : Pair) → OfBoth P pair → OfOpen P (picked pick pair)
picked-of P pick (None, second) both = both.1
picked-of P pick (Some first, None) both = both.0
picked-of P pick (Some first, Some second) both = two-of P pick first second both.0 both.1

-- What a document's cell and entries represent: its first commands were retired, and the others are its entries.
abbrev result : Limits → Option Cell → List Taken → Option DocumentRecord
result limits cell entries = record_after_all limits.keep (started cell) (unread cell entries)

none-retired : (list : List Taken) → length list ≡ 0 → list ≡ []
none-retired [] is = refl
none-retired (first ∷ others) is = absurd (omega (arith, is))

-- without a cell nothing was retired, and the document began with nothing
none-stands : (limits : Limits) (base : Option DocumentRecord) (retired entries : List Taken) → IsRecord limits base
    → all_continue limits base (retired ++ entries) ≡ true → newest_revision base + length retired ≡ 0
    → StandsFor limits None entries (result limits None entries) × PlacesShow (whole_of base (retired ++ entries)) (result limits None entries)
none-stands limits None retired entries past h covers =
    let all : retired ++ entries ≡ entries = ap (λ l. l ++ entries) (none-retired retired (omega (arith, covers))) in
    let goes_on : all_continue limits None entries ≡ true = subst (λ l. all_continue limits None l ≡ true) all h in (
      record { cell_keeps = tt; continue = goes_on; is = refl },
      subst (λ l. PlacesShow (whole_of None l) (record_after_all limits.keep None entries)) (sym all) (record-all limits None None entries tt goes_on),
    )
none-stands limits (Some found) retired entries past h covers = absurd (omega (arith, past.first, covers))

module _ (limits : Limits) (is : IsLimits limits) (base : Option DocumentRecord) (past : IsRecord limits base) (retired entries : List Taken)
    (h : all_continue limits base (retired ++ entries) ≡ true) where
  abbrev pub OneStands : Option Cell → Type 0
  OneStands cell = StandsFor limits cell entries (result limits cell entries) × PlacesShow (whole_of base (retired ++ entries)) (result limits cell entries)

  from-cell : (cell : Cell) → IsCellOf base (retired ++ entries) cell → newest_revision base + length retired ≤ cell.revision → OneStands (Some cell)
  from-cell cell of covers =
      let all : List Taken = retired ++ entries in
      let first : List Taken = take of.count all in
      let others : List Taken = drop of.count all in
      let parts : first ++ others ≡ all = take-append-drop of.count all in
      let split = continue-split limits base first others (subst (λ l. all_continue limits base l ≡ true) (sym parts) h) in
      let begun = continue-split limits base retired entries h in
      let shown : PlacesShow (whole_of base first) (record_after_all limits.keep base first) = record-all limits base base first (places-itself base) split.0 in
      let agree : PlacesAgree (record_after_all limits.keep base first) (Some (record_of_cell cell)) =
      records-agree (whole_of base first) (record_after_all limits.keep base first) (Some (record_of_cell cell)) shown of.shows in
      let same = (agreeing_continue limits (record_after_all limits.keep base first) (Some (record_of_cell cell)) others agree).0 in
      let goes_on : all_continue limits (Some (record_of_cell cell)) others ≡ true = sym same ∙ split.1 in
      let here : cell.revision + 0 ≡ newest_revision base + length first =
      newest-shown (whole_of base first) (Some (record_of_cell cell)) of.shows ∙ newest-whole limits base first split.0 in
      let long : length first ≡ of.count = length-take-le of.count all of.within in
      let before : newest_revision (record_after_all limits.keep base retired) ≡ newest_revision base + length retired = newest-all limits base retired begun.0 in
      let read : others ≡ above cell.revision entries =
      drop-past retired entries of.count (omega (arith, covers, here, long))
      ∙ (ap (λ n. drop n entries) (omega (arith, here, long, before))
      ∙ sym (above-drop limits (record_after_all limits.keep base retired) entries cell.revision begun.1 (omega (arith, covers, before)))) in
      let shows : PlacesShow (whole_of base all) (record_after_all limits.keep (Some (record_of_cell cell)) others) =
      subst (λ w. PlacesShow w (record_after_all limits.keep (Some (record_of_cell cell)) others)) (sym (whole-append base first others) ∙ ap (whole_of base) parts)
      (record-all limits (whole_of base first) (Some (record_of_cell cell)) others of.shows goes_on) in (
        record {
          cell_keeps = agreeing-keeps limits (record_after_all limits.keep base first) cell (continuing_keeps limits base first is past split.0) agree;
          continue = subst (λ l. all_continue limits (Some (record_of_cell cell)) l ≡ true) read goes_on;
          is = refl;
        },
        subst (λ l. PlacesShow (whole_of base all) (record_after_all limits.keep (Some (record_of_cell cell)) l)) read shows,
      )

  pub one-stands : (cell : Option Cell) → OfOpen (IsCellOf base (retired ++ entries)) cell → Covers (newest_revision base + length retired) cell → OneStands cell
  one-stands None of covers = none-stands limits base retired entries past h covers
  one-stands (Some cell) of covers = from-cell cell of covers
