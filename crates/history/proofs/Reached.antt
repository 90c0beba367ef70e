-- How far the documents and the cells of a running store reach.
use Rattle.std.proofs.Common.{◌≡◌, ◌+◌, true, List, length, take, Option, Some, None, sym, ap, subst, ◌∙◌, arith}
use Rattle.std.specs.Prelude.{slice_get}
use Rattle.std.proofs.lemmas.List.{length-take-le, take-append-drop}
use Rattle.revision.specs.Command.{Taken}
use Rattle.revision.specs.Past.{Past, from_floor}
use Rattle.revision.specs.State.{Limits, DocumentRecord, newest_revision, all_continue}
use Rattle.history.specs.Entries.{of_document}
use Rattle.history.specs.Cell.{Cell, record_of_cell}
use Rattle.history.specs.Shown.{base_at, whole_at, whole_of, PlacesShow}
use Rattle.history.specs.Running.{IsCellOf}
use Rattle.history.specs.Law.{DocumentsReach, CellsReach, OneCellAt}
use Rattle.history.proofs.Showing.{newest-shown, newest-whole}
use Rattle.history.proofs.Counting.{continue-split}

pub documents_reach : DocumentsReach
documents_reach order cells entries state number runs =
    sym (newest-shown (whole_at order number) (slice_get state.documents number) (runs.shows number)
    ∙ newest-whole state.limits (base_at order number) (of_document number order.taken) (runs.is_order number))

-- a cell has the revision that so many commands come to
cell-reached : (limits : Limits) (base : Option DocumentRecord) (commands : List Taken) (cell : Cell) → all_continue limits base commands ≡ true
    → (of : IsCellOf base commands cell) → cell.revision ≡ newest_revision base + of.count
cell-reached limits base commands cell h of =
    let first = (continue-split limits base (take of.count commands) _ (subst (λ l. all_continue limits base l ≡ true) (sym (take-append-drop of.count commands)) h)).0 in
    let here : cell.revision + 0 ≡ newest_revision base + length (take of.count commands) =
    newest-shown (whole_of base (take of.count commands)) (Some (record_of_cell cell)) of.shows ∙ newest-whole limits base (take of.count commands) first in
    omega (arith, here, length-take-le of.count commands of.within)

pub cells_reach : CellsReach
cells_reach order cells entries state number cell runs of =
    omega (
      arith,
      cell-reached state.limits (base_at order number) (of_document number order.taken) cell (runs.is_order number) of,
      of.within,
      documents_reach order cells entries state number runs,
    )

same_cell : (a b : Cell) → a.name ≡ b.name → a.revision ≡ b.revision → a.content ≡ b.content → a.sources ≡ b.sources → a ≡ b
same_cell a b name revision content sources = λ i. record { name = name i; revision = revision i; content = content i; sources = sources i }

one-cell : (whole : Option DocumentRecord) (a b : Cell) → PlacesShow whole (Some (record_of_cell a)) → PlacesShow whole (Some (record_of_cell b))
    → a.revision ≡ b.revision → a ≡ b
one-cell None a b shows_a shows_b same = absurd shows_a
one-cell (Some whole) a b shows_a shows_b same =
    same_cell a b (shows_a.name ∙ sym shows_b.name) same (ap (λ (p : Past). p.content) past) (ap (λ (p : Past). p.sources) past)
  where
    past : ◌≡◌ {A = Past} (record_of_cell a).past (record_of_cell b).past
    past = shows_a.past ∙ (ap (from_floor whole.past) same ∙ sym shows_b.past)

pub one_cell_at : OneCellAt
one_cell_at order cells entries state number a b runs is_a is_b same =
    let base = base_at order number in
    let commands = of_document number order.taken in
    let count : (is_b.count) ≡ (is_a.count) =
    omega (arith, same, cell-reached state.limits base commands a (runs.is_order number) is_a, cell-reached state.limits base commands b (runs.is_order number) is_b) in
    one-cell (whole_of base (take is_a.count commands)) a b is_a.shows
    (subst (λ n. PlacesShow (whole_of base (take n commands)) (Some (record_of_cell b))) count is_b.shows) same
