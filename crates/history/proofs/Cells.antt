-- A running store with other cells, with fewer entries, and with nothing.
use Rattle.std.proofs.Common.{◌≡◌, ℕ, zero, suc, ◌+◌, ◌≤◌, ◌<◌, true, List, [], ◌∷◌, ◌++◌, length, Option, Some, None, length-append, refl, sym, ap, subst, ◌∙◌, ⊎_elim, arith, cond}
use Rattle.std.specs.Prelude.{◌-◌, ◌==◌, nat_lt, min, map, is_some, slice_get, replicate, All, max}
use Rattle.std.proofs.lemmas.Bool.{and_parts, eqb-true, cond_both, cases_eq, eq-eqb}
use Rattle.std.proofs.lemmas.List.{append_assoc, length-map, length-replicate}
use Rattle.std.proofs.lemmas.List.Elements.{All-nil, All-cons, All-head, All-tail}
use Rattle.revision.specs.Command.{Taken}
use Rattle.revision.specs.State.{Limits, DocumentRecord, newest_revision, continues, record_after, all_continue, record_after_all}
use Rattle.revision.proofs.CallerLemmas.{empty_is_state}
use Rattle.history.specs.Entries.{of_document, greatest}
use Rattle.history.specs.Cell.{Cell, CellKeeps, record_of_cell, OfOpen, Pair, no_cells, cells_at, with_pair, lowest, freed, IsPut, OfBoth}
use Rattle.history.specs.Shown.{no_order, base_at, PlacesShow}
use Rattle.history.specs.Found.{started}
use Rattle.history.specs.Running.{IsCellOf, IsCellAt}
use Rattle.history.specs.Law.{ChangesCells, Frees, Puts, IsCovered, CoveredByGreatest, Retires, Begins, BeginsWith}
use Rattle.history.proofs.Showing.{shows-itself, next-revision, newest-after, newest-all}
use Rattle.history.proofs.Counting.{of_document-append, continue-split}

-- the cells of a document, and those of the others
pub pair-own : (number : ℕ) (pair : Pair) (cells : List Pair) → number < length cells → cells_at (with_pair number pair cells) number ≡ pair
pair-own number pair [] lt = absurd (omega (arith, lt))
pair-own zero pair (first ∷ others) lt = refl
pair-own (suc number) pair (first ∷ others) lt = pair-own number pair others (omega (arith, lt))

pub pair-other : (number : ℕ) (pair : Pair) (cells : List Pair) (other : ℕ) → (number ≡ other → ⊥) → cells_at (with_pair number pair cells) other ≡ cells_at cells other
pair-other number pair [] other differ = refl
pair-other zero pair (first ∷ others) zero differ = absurd (differ refl)
pair-other zero pair (first ∷ others) (suc other) differ = refl
pair-other (suc number) pair (first ∷ others) zero differ = refl
pair-other (suc number) pair (first ∷ others) (suc other) differ = pair-other number pair others other (λ e. differ (ap suc e))

pub length-with_pair : (number : ℕ) (pair : Pair) (cells : List Pair) → length (with_pair number pair cells) ≡ length cells
length-with_pair number pair [] = refl
length-with_pair zero pair (first ∷ others) = refl
length-with_pair (suc number) pair (first ∷ others) = ap suc (length-with_pair number pair others)

-- what holds of the new pair, and of the others as they were, holds of each
at-each : (P : ℕ → Pair → Type 0) (number : ℕ) (pair : Pair) (cells : List Pair) → number < length cells → P number pair
    → ((other : ℕ) → P other (cells_at cells other)) → (other : ℕ) → P other (cells_at (with_pair number pair cells) other)
at-each P number pair cells lt here each other =
    ⊎_elim
    (λ (same : number ≡ other). subst (λ n. P n (cells_at (with_pair number pair cells) n)) same (subst (P number) (sym (pair-own number pair cells lt)) here))
    (λ (differ : number ≡ other → ⊥). subst (P other) (sym (pair-other number pair cells other differ)) (each other))
    (cases_eq number other)

pub changes_cells : ChangesCells
changes_cells order cells entries state number pair runs lt of covers = record {
  retired = runs.retired;
  held = runs.held;
  is_state = runs.is_state;
  pairs = length-with_pair number pair cells ∙ runs.pairs;
  start = runs.start;
  is_order = runs.is_order;
  shows = runs.shows;
  cells_are = at-each (λ n p. OfBoth (IsCellAt order n) p) number pair cells lt of runs.cells_are;
  covered = at-each (λ n p. newest_revision (base_at order n) + length (of_document n runs.retired) ≤ lowest p) number pair cells lt (omega (arith, runs.covered number, covers)) runs.covered;
}

pub freed-of : (P : Cell → Type 0) (pair : Pair) → OfBoth P pair → OfBoth P (freed pair)
freed-of P (None, second) both = both
freed-of P (Some first, None) both = both
freed-of P (Some first, Some second) both =
    cond_both (nat_lt second.revision first.revision) (Some first, None) (None, Some second) (OfBoth P) (λ e. (both.0, tt)) (λ e. (tt, both.1))

pub freed-lowest : (pair : Pair) → lowest pair ≤ lowest (freed pair)
freed-lowest (None, second) = omega arith
freed-lowest (Some first, None) = omega arith
freed-lowest (Some first, Some second) =
    cond_both (nat_lt second.revision first.revision) (Some first, None) (None, Some second) (λ (p : Pair). min first.revision second.revision ≤ lowest p)
    (λ e. omega arith) (λ e. omega arith)

pub frees : Frees
frees order cells entries state number runs lt =
    changes_cells order cells entries state number (freed (cells_at cells number)) runs lt
    (freed-of (IsCellAt order number) (cells_at cells number) (runs.cells_are number)) (freed-lowest (cells_at cells number))

put-lowest-first : (cell : Cell) (second : Option Cell) → lowest (None, second) ≤ cell.revision → lowest (None, second) ≤ lowest (Some cell, second)
put-lowest-first cell None le = omega arith
put-lowest-first cell (Some second) le = omega (arith, le)

put-lowest-second : (cell : Cell) (first : Option Cell) → lowest (first, None) ≤ cell.revision → lowest (first, None) ≤ lowest (first, Some cell)
put-lowest-second cell None le = omega arith
put-lowest-second cell (Some first) le = omega (arith, le)

put-of : (P : Cell → Type 0) (cell : Cell) (before after : Pair) → IsPut cell before after → P cell → OfBoth P before → OfBoth P after × (lowest before ≤ lowest after)
put-of P cell before after put here both =
    ⊎_elim
    (λ first.
    let closed : (None, before.1) ≡ before = λ i. (sym first.0 i, before.1) in
    let le : lowest (None, before.1) ≤ cell.revision = subst (λ p. lowest p ≤ cell.revision) (sym closed) put.0 in (
      subst (OfBoth P) (sym first.1) (here, both.1),
      subst (λ p. lowest before ≤ lowest p) (sym first.1) (subst (λ p. lowest p ≤ lowest (Some cell, before.1)) closed (put-lowest-first cell before.1 le)),
    ))
    (λ second.
    let closed : (before.0, None) ≡ before = λ i. (before.0, sym second.0 i) in
    let le : lowest (before.0, None) ≤ cell.revision = subst (λ p. lowest p ≤ cell.revision) (sym closed) put.0 in (
      subst (OfBoth P) (sym second.1) (both.0, here),
      subst (λ p. lowest before ≤ lowest p) (sym second.1) (subst (λ p. lowest p ≤ lowest (before.0, Some cell)) closed (put-lowest-second cell before.0 le)),
    ))
    put.1

pub puts : Puts
puts order cells entries state number cell pair runs lt of put =
    let both = put-of (IsCellAt order number) cell (cells_at cells number) pair put of (runs.cells_are number) in
    changes_cells order cells entries state number pair runs lt both.0 both.1

-- the commands of a document that are covered are no more than the revision that covers them
covered-of : (cells : List Pair) (number : ℕ) (entries : List Taken) → All (IsCovered cells) entries
    → All (λ (t : Taken). t.revision ≤ lowest (cells_at cells number)) (of_document number entries)
covered-of cells number [] all = All-nil (λ (t : Taken). t.revision ≤ lowest (cells_at cells number))
covered-of cells number (first ∷ others) all =
    let later = covered-of cells number others (All-tail (IsCovered cells) first others all) in
    let here = All-head (IsCovered cells) first others all in
    cond_both (first.document == number) (first ∷ of_document number others) (of_document number others)
    (All (λ (t : Taken). t.revision ≤ lowest (cells_at cells number)))
    (λ e. All-cons (λ (t : Taken). t.revision ≤ lowest (cells_at cells number)) first (of_document number others)
    (subst (λ n. first.revision ≤ lowest (cells_at cells n)) (eqb-true first.document number e) here) later)
    (λ e. later)

covered-count : (limits : Limits) (found : Option DocumentRecord) (others : List Taken) (low : ℕ) → all_continue limits found others ≡ true
    → All (λ (t : Taken). t.revision ≤ low) others → newest_revision found ≤ low → newest_revision found + length others ≤ low
covered-count limits found [] low h all le = omega (arith, le)
covered-count limits found (first ∷ others) low h all le =
    let parts = and_parts (continues limits found first) (all_continue limits (record_after limits.keep found first) others) h in
    let number : first.revision ≡ newest_revision found + 1 = next-revision limits found first parts.0 in
    let more = newest-after limits found first parts.0 in
    let here : first.revision ≤ low = All-head (λ (t : Taken). t.revision ≤ low) first others all in
    let later = covered-count limits (record_after limits.keep found first) others low parts.1 (All-tail (λ (t : Taken). t.revision ≤ low) first others all) (omega (arith, number, more, here)) in
    omega (arith, more, later)

pub retires : Retires
retires order cells oldest others state runs all = record {
  retired = runs.retired ++ oldest;
  held = runs.held ∙ sym (append_assoc runs.retired oldest others);
  is_state = runs.is_state;
  pairs = runs.pairs;
  start = runs.start;
  is_order = runs.is_order;
  shows = runs.shows;
  cells_are = runs.cells_are;
  covered = λ number.
      let base = base_at order number in
      let first : List Taken = of_document number runs.retired in
      let gone : List Taken = of_document number oldest in
      let parts : of_document number order.taken ≡ first ++ (gone ++ of_document number others) =
      ap (of_document number) runs.held ∙ (of_document-append number runs.retired (oldest ++ others) ∙ ap (λ l. first ++ l) (of_document-append number oldest others)) in
      let split = continue-split state.limits base first (gone ++ of_document number others) (subst (λ l. all_continue state.limits base l ≡ true) parts (runs.is_order number)) in
      let goes_on = continue-split state.limits (record_after_all state.limits.keep base first) gone (of_document number others) split.1 in
      let before = newest-all state.limits base first split.0 in
      let count = covered-count state.limits (record_after_all state.limits.keep base first) gone (lowest (cells_at cells number)) goes_on.0
      (covered-of cells number oldest all) (omega (arith, before, runs.covered number)) in
      subst (λ (l : List Taken). newest_revision base + length l ≤ lowest (cells_at cells number)) (sym (of_document-append number runs.retired oldest))
      (omega (arith, before, count, length-append first gone));
}

-- by the greatest revision of each document
covered-greatest : (cells : List Pair) (entries : List Taken) → All (IsCovered cells) entries → (number : ℕ) → greatest number entries ≤ lowest (cells_at cells number)
covered-greatest cells [] all number = omega arith
covered-greatest cells (first ∷ others) all number =
    let later = covered-greatest cells others (All-tail (IsCovered cells) first others all) number in
    let here = All-head (IsCovered cells) first others all in
    cond_both (first.document == number) (max first.revision (greatest number others)) (greatest number others) (λ n. n ≤ lowest (cells_at cells number))
    (λ e. omega (arith, subst (λ n. first.revision ≤ lowest (cells_at cells n)) (eqb-true first.document number e) here, later)) (λ e. later)

greatest-more : (number : ℕ) (first : Taken) (others : List Taken) → greatest number others ≤ greatest number (first ∷ others)
greatest-more number first others =
    cond_both (first.document == number) (max first.revision (greatest number others)) (greatest number others) (λ n. greatest number others ≤ n) (λ e. omega arith) (λ e. omega arith)

greatest-first : (first : Taken) (others : List Taken) → first.revision ≤ greatest first.document (first ∷ others)
greatest-first first others =
    subst (λ b. first.revision ≤ cond b (max first.revision (greatest first.document others)) (greatest first.document others))
    (sym (eq-eqb first.document first.document refl)) (omega arith)

greatest-covered : (cells : List Pair) (entries : List Taken) → ((number : ℕ) → greatest number entries ≤ lowest (cells_at cells number)) → All (IsCovered cells) entries
greatest-covered cells [] each = All-nil (IsCovered cells)
greatest-covered cells (first ∷ others) each =
    All-cons (IsCovered cells) first others (omega (arith, greatest-first first others, each first.document))
    (greatest-covered cells others (λ number. omega (arith, greatest-more number first others, each number)))

pub covered_by_greatest : CoveredByGreatest
covered_by_greatest cells entries = (covered-greatest cells entries, greatest-covered cells entries)

-- a store without commands
pub none-open : (count number : ℕ) → cells_at (replicate count no_cells) number ≡ no_cells
none-open zero number = refl
none-open (suc count) zero = refl
none-open (suc count) (suc number) = none-open count number

pub begins : Begins
begins limits is = record {
  retired = [];
  held = refl;
  is_state = empty_is_state limits is;
  pairs = length-replicate limits.docs no_cells;
  start = λ number. tt;
  is_order = λ number. refl;
  shows = λ number. tt;
  cells_are = λ number. subst (OfBoth (IsCellAt no_order number)) (sym (none-open limits.docs number)) (tt, tt);
  covered = λ number. omega arith;
}

-- documents that a store begins with: each one's first cell holds it
cells-first : (start : List Cell) (count number : ℕ) → cells_at (map (λ (c : Cell). (Some c, None)) start ++ replicate count no_cells) number
    ≡ cond (is_some (slice_get start number)) (slice_get start number, None) no_cells
cells-first [] count number = none-open count number
cells-first (first ∷ others) count zero = refl
cells-first (first ∷ others) count (suc number) = cells-first others count number

shown-first : (start : List Cell) (number : ℕ) → PlacesShow (started (slice_get start number)) (slice_get (map record_of_cell start) number)
shown-first [] number = tt
shown-first (first ∷ others) zero = shows-itself (record_of_cell first)
shown-first (first ∷ others) (suc number) = shown-first others number

kept-first : (limits : Limits) (start : List Cell) → All (CellKeeps limits) start → (number : ℕ) → OfOpen (CellKeeps limits) (slice_get start number)
kept-first limits [] all number = tt
kept-first limits (first ∷ others) all zero = All-head (CellKeeps limits) first others all
kept-first limits (first ∷ others) all (suc number) = kept-first limits others (All-tail (CellKeeps limits) first others all) number

own-cell : (base : Option Cell) → OfBoth (IsCellOf (started base) []) (cond (is_some base) (base, None) no_cells)
own-cell None = (tt, tt)
own-cell (Some cell) = (record { count = 0; within = omega arith; shows = shows-itself (record_of_cell cell) }, tt)

own-covered : (base : Option Cell) → newest_revision (started base) + 0 ≤ lowest (cond (is_some base) (base, None) no_cells)
own-covered None = omega arith
own-covered (Some cell) = omega arith

pub begins_with : BeginsWith
begins_with limits start is keeps = record {
  retired = [];
  held = refl;
  is_state = is;
  pairs = omega (
    arith,
    length-append {A = Pair} (map (λ (c : Cell). (Some c, None)) start) (replicate (limits.docs - length start) no_cells),
    length-map {B = Pair} start (λ (c : Cell). (Some c, None)),
    length-replicate (limits.docs - length start) no_cells,
    length-map start record_of_cell,
    is.count,
  );
  start = kept-first limits start keeps;
  is_order = λ number. refl;
  shows = shown-first start;
  cells_are = λ number. subst (OfBoth (IsCellOf (started (slice_get start number)) [])) (sym (cells-first start (limits.docs - length start) number)) (own-cell (slice_get start number));
  covered = λ number. subst (λ p. newest_revision (started (slice_get start number)) + 0 ≤ lowest p) (sym (cells-first start (limits.docs - length start) number)) (own-covered (slice_get start number));
}
