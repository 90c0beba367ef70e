-- Documents that are read one after the other, in order of their numbers.
use Rattle.std.proofs.Common.{◌≡◌, ℕ, zero, suc, ◌+◌, ◌≤◌, ◌<◌, Bool, true, false, List, [], ◌∷◌, ◌++◌, length, map, get_or, Option, Some, None, length-append, refl, sym, ap, subst, ◌∙◌, ⊎_elim, inl, inr, arith}
use Rattle.std.specs.Prelude.{unwrap_or, slice_get}
use Rattle.std.proofs.lemmas.Bool.{cases_lt}
use Rattle.std.proofs.lemmas.List.{get_or_past}
use Rattle.std.proofs.lemmas.Option.{same_Some, slice_get_past, slice_get_within}
use Rattle.revision.specs.Command.{Taken}
use Rattle.revision.specs.State.{Limits, State, all_grow, fold}
use Rattle.revision.specs.Invariants.{IsLimits}
use Rattle.history.specs.Entries.{of_document}
use Rattle.history.specs.declared.pick.Pick.{Pick}
use Rattle.history.specs.Cell.{Cell, Pair, no_cells, cells_at, picked}
use Rattle.history.specs.Found.{unread, StandsFor, StandFor}
use Rattle.history.specs.Reading.{HasRead, entered, enters, is_there, ReadsNext, NothingLeft}
use Rattle.history.proofs.CallerLemmas.{reading_begins, reading_goes_on, reading_ends, reading_finds}
use Rattle.milestone.specs.declared.cells.Cells.{Cells}
use Rattle.milestone.specs.declared.format.Format.{Format}
use Rattle.milestone.specs.declared.format.Format.TheVariants.{One, Two}
use Rattle.milestone.specs.OneCell.{HoldsPairIn}
use Rattle.milestone.specs.Cells.{FitsIn, place_of, size_of}
use Rattle.milestone.proofs.CallerLemmas.{one_pair}
use Rattle.recovery.specs.declared.shape.Shape.{Shape}
use Rattle.recovery.specs.Shape.{is_in_range, cells_place}
use Rattle.recovery.specs.Layout.{HoldsCellsIn}
use Rattle.recovery.specs.Cells.{IsCellsOf, FitEachIn}
use Rattle.recovery.specs.Found.{retry_in, limits_in}
use Rattle.recovery.specs.steps.Reading.{AreByDocument, IsNextRead, IsDocumentRead, IsNext, AreDocumentsRead}
use Rattle.recovery.proofs.Folds.{fold-limits}
use Rattle.recovery.proofs.Superblocks.{ranges_of}

-- What holds of each of a list and of one more, holds of each with it.
each-push : {A : Type 0} (P : ℕ → A → Type 0) (xs : List A) (x : A) → ((n : ℕ) (a : A) → slice_get xs n ≡ Some a → P n a) → P (length xs) x
    → (n : ℕ) (a : A) → slice_get (xs ++ x ∷ []) n ≡ Some a → P n a
each-push P [] x each own zero a is = subst (P 0) (same_Some x a is) own
each-push P [] x each own (suc n) a is = absurd (cc)
each-push P (y ∷ ys) x each own zero a is = each 0 a is
each-push P (y ∷ ys) x each own (suc n) a is = each-push (λ m. P (suc m)) ys x (λ m b. each (suc m) b) own n a is

-- the pairs with one more
cells-before : (pairs : List Pair) (pair : Pair) (n : ℕ) → n < length pairs → cells_at (pairs ++ pair ∷ []) n ≡ cells_at pairs n
cells-before [] pair n lt = absurd (omega (arith, lt))
cells-before (p ∷ pairs) pair zero lt = refl
cells-before (p ∷ pairs) pair (suc n) lt = cells-before pairs pair n (omega (arith, lt))

cells-own : (pairs : List Pair) (pair : Pair) → cells_at (pairs ++ pair ∷ []) (length pairs) ≡ pair
cells-own [] pair = refl
cells-own (p ∷ pairs) pair = cells-own pairs pair

pub cells-past : (pairs : List Pair) (n : ℕ) → length pairs ≤ n → cells_at pairs n ≡ no_cells
cells-past pairs n le = ap (λ o. unwrap_or o no_cells) (slice_get_past pairs n le)

-- What was read of the first documents, by cells that are those of each of them, is so.
read-alike : (pairs others : List Pair) (entries : List Taken) (pick : Pick) (state : State) → HasRead pairs entries pick state
    → ((n : ℕ) → n < length state.documents → cells_at others n ≡ cells_at pairs n) → HasRead others entries pick state
read-alike pairs others entries pick state has alike = record {
  is_state = has.is_state;
  each = λ number lt.
      subst (λ (p : Pair). StandsFor state.limits (picked pick p) (of_document number entries) (slice_get state.documents number)) (sym (alike number lt)) (has.each number lt);
}

-- What is read so far of all entries, by the pairs of the first numbers: the documents of the state, and those behind them have
-- neither a cell nor an entry.
pub record ReadTo (pairs : List Pair) (pick : Pick) (entries : List Taken) (lists : List (List Taken)) (state : State) : Type 0 where
  pub has : HasRead pairs entries pick state
  pub low : length state.documents ≤ length pairs
  pub gap : (number : ℕ) → length state.documents ≤ number → number < length pairs
      → (picked pick (cells_at pairs number) ≡ None) × (get_or lists number [] ≡ [])

-- What is read so far of a content, whose cells are known where the device is honest.
pub record SoFar (format : Format) (honest : Type 0) (content : List ℕ) (shape : Shape) (pick : Pick) (lists : List (List Taken)) (known : List Cells) (state : State) : Type 0 where
  pub pairs : List Pair
  pub count : length pairs ≡ length known
  pub of : (number : ℕ) (cells : Cells) → slice_get known number ≡ Some cells → IsCellsOf shape number cells
  pub fit : honest → FitEachIn format content known pairs
  pub limits : state.limits ≡ limits_in format shape
  pub reads : (entries : List Taken) → AreByDocument entries lists → ReadTo pairs pick entries lists state

nothing-there : (cell : Option Cell) (entries : List Taken) → is_there cell entries ≡ false → (cell ≡ None) × (entries ≡ [])
nothing-there None [] is = (refl, refl)
nothing-there None (t ∷ entries) is = absurd (cc)
nothing-there (Some cell) entries is = absurd (cc)

none-there : (cell : Option Cell) (entries : List Taken) → cell ≡ None → entries ≡ [] → is_there cell entries ≡ true → ⊥
none-there None [] no_cell no_entries is = absurd (cc)
none-there None (t ∷ entries) no_cell no_entries is = absurd (cc)
none-there (Some cell) entries no_cell no_entries is = absurd (cc)

entered-limits : (state : State) (cell : Option Cell) → (entered state cell).limits ≡ state.limits
entered-limits state None = refl
entered-limits state (Some cell) = refl

module _ (pick : Pick) (entries : List Taken) (lists : List (List Taken)) (by : AreByDocument entries lists) where
  -- a number that has neither a cell nor an entry
  passed : (pairs : List Pair) (pair : Pair) (own : List Taken) (state after : State) → ReadTo pairs pick entries lists state
      → own ≡ get_or lists (length pairs) [] → is_there (picked pick pair) own ≡ false → after ≡ state → ReadTo (pairs ++ pair ∷ []) pick entries lists after
  passed pairs pair own state after to is_own none same =
      let nothing = nothing-there (picked pick pair) own none in
      subst (ReadTo (pairs ++ pair ∷ []) pick entries lists) (sym same)
      (record {
        has = read-alike pairs (pairs ++ pair ∷ []) entries pick state to.has (λ n lt. cells-before pairs pair n (omega (arith, lt, to.low)));
        low = omega (arith, to.low, length-append pairs (pair ∷ []));
        gap = λ number le lt. ⊎_elim
            (λ (below : number < length pairs).
            let before = to.gap number le below in
            (ap (picked pick) (cells-before pairs pair number below) ∙ before.0, before.1))
            (λ (top : length pairs ≤ number).
            let last : length pairs ≡ number = omega (arith, top, lt, length-append pairs (pair ∷ [])) in
            subst (λ n. (picked pick (cells_at (pairs ++ pair ∷ []) n) ≡ None) × (get_or lists n [] ≡ [])) last
            (ap (picked pick) (cells-own pairs pair) ∙ nothing.0, sym is_own ∙ nothing.1))
            (cases_lt number (length pairs));
      })

  -- what the next document's reading is, in the words of the law
  reads-next : (pairs : List Pair) (state after : State) (cell : Option Cell) (own : List Taken) → picked pick (cells_at pairs (length state.documents)) ≡ cell
      → own ≡ get_or lists (length state.documents) [] → (number : ℕ) → IsNextRead number cell own state after → ReadsNext pairs entries pick state
  reads-next pairs state after cell own is_cell is_own number next =
      let all : own ≡ of_document (length state.documents) entries = is_own ∙ by (length state.documents) in
      record {
        there = subst (λ c. is_there c (of_document (length state.documents) entries) ≡ true) (sym is_cell) (subst (λ l. is_there cell l ≡ true) all next.there);
        enters = subst (λ c. enters state c ≡ true) (sym is_cell) next.enters;
        grow = subst (λ c. all_grow (entered state c) (unread c (of_document (length state.documents) entries)) ≡ true) (sym is_cell)
            (subst (λ l. all_grow (entered state cell) (unread cell l) ≡ true) all next.grow);
      }

  -- a number whose document is added
  added : (pairs : List Pair) (pair : Pair) (own : List Taken) (state after : State) → ReadTo pairs pick entries lists state
      → own ≡ get_or lists (length pairs) [] → IsNextRead (length pairs) (picked pick pair) own state after → ReadTo (pairs ++ pair ∷ []) pick entries lists after
  added pairs pair own state after to is_own next =
      let now : List Pair = pairs ++ pair ∷ [] in
      let has = read-alike pairs now entries pick state to.has (λ n lt. cells-before pairs pair n (omega (arith, lt, to.low))) in
      let is_cell : picked pick (cells_at now (length state.documents)) ≡ picked pick pair =
      ap (λ n. picked pick (cells_at now n)) next.next ∙ ap (picked pick) (cells-own pairs pair) in
      let here : own ≡ get_or lists (length state.documents) [] = is_own ∙ ap (λ n. get_or lists n []) (sym next.next) in
      let on = reading_goes_on now entries pick state has (reads-next now state after (picked pick pair) own is_cell here (length pairs) next) in
      let all : of_document (length state.documents) entries ≡ own = sym (here ∙ by (length state.documents)) in
      let is : fold (entered state (picked pick (cells_at now (length state.documents)))) (unread (picked pick (cells_at now (length state.documents))) (of_document (length state.documents) entries)) ≡ after =
      ap (λ c. fold (entered state c) (unread c (of_document (length state.documents) entries))) is_cell
      ∙ (ap (λ l. fold (entered state (picked pick pair)) (unread (picked pick pair) l)) all ∙ sym next.is) in
      let read : HasRead now entries pick after × (length after.documents ≡ length state.documents + 1) =
      subst (λ (s : State). HasRead now entries pick s × (length s.documents ≡ length state.documents + 1)) is on in
      let long : length now ≡ length pairs + 1 = length-append pairs (pair ∷ []) in
      record {
        has = read.0;
        low = omega (arith, read.1, next.next, long);
        gap = λ number le lt. absurd (omega (arith, le, lt, long, read.1, next.next));
      }

  -- at the end nothing is left
  pub ends : (pairs : List Pair) (state : State) → ReadTo pairs pick entries lists state → length lists ≤ length pairs → StandFor state.limits pairs entries pick state
  ends pairs state to all =
      reading_ends pairs entries pick state to.has
      (λ number le. ⊎_elim
      (λ (below : number < length pairs).
      let gap = to.gap number le below in
      (gap.0, sym (by number) ∙ gap.1))
      (λ (past : length pairs ≤ number).
      (ap (picked pick) (cells-past pairs number past), sym (by number) ∙ get_or_past lists number [] (omega (arith, all, past))))
      (cases_lt number (length pairs)))

-- Where the parts represent a state, the next number's document is read.
module _ (pick : Pick) (entries : List Taken) (lists : List (List Taken)) (by : AreByDocument entries lists) (pairs whole : List Pair) (state found : State)
    (to : ReadTo pairs pick entries lists state) (alike : (n : ℕ) → n < length pairs → cells_at whole n ≡ cells_at pairs n)
    (stand : StandFor state.limits whole entries pick found)
    (none : (after : State) → ¬ IsDocumentRead (length pairs) (picked pick (cells_at whole (length pairs))) (get_or lists (length pairs) []) state after) where
  abbrev next_number : ℕ
  next_number = length state.documents

  abbrev cell : Option Cell
  cell = picked pick (cells_at whole (length pairs))

  abbrev own : List Taken
  own = get_or lists (length pairs) []

  has-whole : HasRead whole entries pick state
  has-whole = read-alike pairs whole entries pick state to.has (λ n lt. alike n (omega (arith, lt, to.low)))

  finds : (length state.documents < length found.documents → ReadsNext whole entries pick state)
      × (length found.documents ≤ length state.documents → (state ≡ found) × NothingLeft whole entries pick state)
  finds = reading_finds whole entries pick state found has-whole stand

  at-next : next_number ≡ length pairs → is_there cell own ≡ true → ReadsNext whole entries pick state → ⊥
  at-next same there reads =
      let is_cell : picked pick (cells_at whole next_number) ≡ cell = ap (λ n. picked pick (cells_at whole n)) same in
      let all : of_document next_number entries ≡ own = sym (by next_number) ∙ ap (λ n. get_or lists n []) same in
      none (fold (entered state cell) (unread cell own))
      (inr (record {
        there = there;
        next = same;
        enters = subst (λ c. enters state c ≡ true) is_cell reads.enters;
        grow = subst (λ l. all_grow (entered state cell) (unread cell l) ≡ true) all
            (subst (λ c. all_grow (entered state c) (unread c (of_document next_number entries)) ≡ true) is_cell reads.grow);
        is = refl;
      }))

  behind-gap : next_number < length pairs → ReadsNext whole entries pick state → ⊥
  behind-gap lt reads =
      let gap = to.gap next_number (omega arith) lt in
      none-there (picked pick (cells_at whole next_number)) (of_document next_number entries)
      (ap (picked pick) (alike next_number lt) ∙ gap.0) (sym (by next_number) ∙ gap.1) reads.there

  by-test : (b : Bool) → is_there cell own ≡ b → ⊥
  by-test false is = none state (inl (is, refl))
  by-test true is =
      ⊎_elim
      (λ (less : length state.documents < length found.documents).
      ⊎_elim
      (λ (lt : length state.documents < length pairs). behind-gap lt (finds.0 less))
      (λ (top : length pairs ≤ length state.documents). at-next (omega (arith, top, to.low)) is (finds.0 less))
      (cases_lt (length state.documents) (length pairs)))
      (λ (all : length found.documents ≤ length state.documents).
      let left = (finds.1 all).1 (length pairs) to.low in
      none-there cell own left.0 (by (length pairs) ∙ left.1) is)
      (cases_lt (length state.documents) (length found.documents))

  pub goes_on : ⊥
  goes_on = by-test (is_there cell own) refl

-- The limits of a shape are in their ranges.
few_in : (format : Format) → retry_in format ≤ 8
few_in One = omega arith
few_in Two = omega arith

pub limits_in_range : (format : Format) (shape : Shape) → is_in_range shape ≡ true → IsLimits (limits_in format shape)
limits_in_range format shape is =
    let ranges = ranges_of shape is in
    record {
      some_document = ranges.docs_low;
      docs = ranges.docs;
      some_source = ranges.sources_low;
      sources = ranges.sources;
      weight = omega (arith, ranges.cell);
      width = omega (arith, ranges.slot);
      some_revision = ranges.keep_low;
      keep = ranges.keep;
      retry = few_in format;
    }

-- Nothing is read yet.
pub begins : (format : Format) (honest : Type 0) (content : List ℕ) (shape : Shape) (pick : Pick) (lists : List (List Taken)) → is_in_range shape ≡ true
    → SoFar format honest content shape pick lists [] (record { limits = limits_in format shape; documents = [] })
begins format honest content shape pick lists is = record {
  pairs = [];
  count = refl;
  of = λ number cells there. absurd (cc);
  fit = λ h number cells there. absurd (cc);
  limits = refl;
  reads = λ entries by. record {
    has = reading_begins (limits_in format shape) [] entries pick (limits_in_range format shape is);
    low = omega arith;
    gap = λ number le lt. absurd (omega (arith, lt));
  };
}

-- A number more is read.
document-limits : (number : ℕ) (cell : Option Cell) (own : List Taken) (state after : State) → IsDocumentRead number cell own state after → after.limits ≡ state.limits
document-limits number cell own state after read =
    ⊎_elim
    (λ nothing. ap (λ (s : State). s.limits) nothing.1)
    (λ next. ap (λ (s : State). s.limits) next.is ∙ (fold-limits (entered state cell) (unread cell own) ∙ entered-limits state cell))
    read

pub one_more : (format : Format) (honest now_honest : Type 0) (content : List ℕ) (shape : Shape) (pick : Pick) (lists : List (List Taken)) (own : List Taken) (known now : List Cells)
    (state after : State) → SoFar format honest content shape pick lists known state → (now_honest → honest) → own ≡ get_or lists (length known) []
    → IsNext format now_honest content shape pick own known state now after → SoFar format now_honest content shape pick lists now after
one_more format honest now_honest content shape pick lists own known now state after so_far was_honest is_own next =
    subst (λ (k : List Cells). SoFar format now_honest content shape pick lists k after) (sym next.is)
    (record {
      pairs = so_far.pairs ++ next.pair ∷ [];
      count = length-append so_far.pairs (next.pair ∷ []) ∙ (ap (λ n. n + 1) so_far.count ∙ sym (length-append known (next.cells ∷ [])));
      of = each-push (IsCellsOf shape) known next.cells so_far.of next.of;
      fit = λ h. each-push (λ n (cells : Cells). FitsIn format content cells (cells_at (so_far.pairs ++ next.pair ∷ []) n)) known next.cells
          (λ n cells there.
          let fits = so_far.fit (was_honest h) n cells there in
          subst (FitsIn format content cells) (sym (cells-before so_far.pairs next.pair n (omega (arith, so_far.count, slice_get_within known n cells there)))) fits)
          (subst (FitsIn format content next.cells) (sym (ap (cells_at (so_far.pairs ++ next.pair ∷ [])) (sym so_far.count) ∙ cells-own so_far.pairs next.pair)) (next.fits h));
      limits = document-limits (length known) (picked pick next.pair) own state after next.read ∙ so_far.limits;
      reads = λ entries by.
          let to = so_far.reads entries by in
          let here : own ≡ get_or lists (length so_far.pairs) [] = is_own ∙ ap (λ n. get_or lists n []) (sym so_far.count) in
          ⊎_elim
          (λ nothing. passed pick entries lists by so_far.pairs next.pair own state after to here nothing.0 nothing.1)
          (λ read. added pick entries lists by so_far.pairs next.pair own state after to here
          (subst (λ n. IsNextRead n (picked pick next.pair) own state after) (sym so_far.count) read))
          next.read;
    })

-- cells that fit hold their pair where those of their number lie
pub held-pair : (format : Format) (content : List ℕ) (shape : Shape) (number : ℕ) (cells : Cells) (pair : Pair) → IsCellsOf shape number cells → FitsIn format content cells pair
    → HoldsPairIn format (cells_place shape number) shape.cell number content pair
held-pair format content shape number cells pair place fits =
    subst (λ n. HoldsPairIn format n shape.cell number content pair) place.place
    (subst (λ n. HoldsPairIn format (place_of cells) n number content pair) place.size
    (subst (λ n. HoldsPairIn format (place_of cells) (size_of cells) n content pair) place.of fits.holds))

-- the list that comes behind others
pub own-at : {A B : Type 0} (f : A → B) (before : List A) (own : A) (rest : List A) (d : B) → get_or (map f (before ++ own ∷ rest)) (length before) d ≡ f own
own-at f [] own rest d = refl
own-at f (x ∷ before) own rest d = own-at f before own rest d

pub length-behind : {A : Type 0} (before : List A) (own : A) (rest : List A) → length (before ++ own ∷ rest) ≡ length before + 1 + length rest
length-behind [] own rest = omega arith
length-behind (x ∷ before) own rest = omega (arith, length-behind before own rest)

not-within : {A : Type 0} (xs : List A) (n : ℕ) → n < length xs → slice_get xs n ≡ None → ⊥
not-within [] n lt is = omega (arith, lt)
not-within (x ∷ xs) zero lt is = absurd (cc)
not-within (x ∷ xs) (suc n) lt is = not-within xs n (omega (arith, lt)) is

-- the cells of a content that were read are those that it holds
held : (format : Format) (content : List ℕ) (shape : Shape) (known : List Cells) (pairs : List Pair)
    → ((number : ℕ) (cells : Cells) → slice_get known number ≡ Some cells → IsCellsOf shape number cells) → FitEachIn format content known pairs
    → (number : ℕ) → number < length known → HoldsPairIn format (cells_place shape number) shape.cell number content (cells_at pairs number)
held format content shape known pairs of fit number lt = on (slice_get known number) refl
  where
    on : (found : Option Cells) → slice_get known number ≡ found → HoldsPairIn format (cells_place shape number) shape.cell number content (cells_at pairs number)
    on None is = absurd (not-within known number lt is)
    on (Some cells) is = held-pair format content shape number cells (cells_at pairs number) (of number cells is) (fit number cells is)

pub all_read : (format : Format) (honest : Type 0) (content : List ℕ) (shape : Shape) (pick : Pick) (lists : List (List Taken)) (known : List Cells) (state : State)
    → SoFar format honest content shape pick lists known state → length known ≡ shape.docs → length lists ≡ shape.docs → honest
    → (entries : List Taken) → AreByDocument entries lists → AreDocumentsRead format content shape pick entries known state
all_read format honest content shape pick lists known state so_far count lists_count h entries by = record {
  pairs = so_far.pairs;
  holds = record {
    count = so_far.count ∙ count;
    each = λ number lt. held format content shape known so_far.pairs so_far.of (so_far.fit h) number (omega (arith, lt, count));
  };
  fit = so_far.fit h;
  stand = subst (λ (l : Limits). StandFor l so_far.pairs entries pick state) so_far.limits
      (ends pick entries lists by so_far.pairs state (so_far.reads entries by) (omega (arith, lists_count, count, so_far.count)));
}

-- Where the next number can't be read, the parts represent no state.
pub none_stand : (format : Format) (honest : Type 0) (content : List ℕ) (shape : Shape) (pick : Pick) (lists : List (List Taken)) (known : List Cells) (state : State) (own : List Taken)
    → SoFar format honest content shape pick lists known state → honest → length known < shape.docs → own ≡ get_or lists (length known) []
    → ((pair : Pair) → HoldsPairIn format (cells_place shape (length known)) shape.cell (length known) content pair
    → (after : State) → ¬ IsDocumentRead (length known) (picked pick pair) own state after)
    → (pairs : List Pair) → HoldsCellsIn format content shape pairs → (entries : List Taken) → AreByDocument entries lists
    → (found : State) → ¬ StandFor (limits_in format shape) pairs entries pick found
none_stand format honest content shape pick lists known state own so_far h lt is_own none pairs holds entries by found stand =
    goes_on pick entries lists by so_far.pairs pairs state found (so_far.reads entries by)
    (λ n below.
    let inside : n < length known = omega (arith, below, so_far.count) in
    one_pair format (cells_place shape n) shape.cell n content (cells_at pairs n) (cells_at so_far.pairs n)
    (holds.each n (omega (arith, inside, lt))) (held format content shape known so_far.pairs so_far.of (so_far.fit h) n inside))
    (subst (λ (l : Limits). StandFor l pairs entries pick found) (sym so_far.limits) stand)
    (λ after read.
    none (cells_at pairs (length known)) (holds.each (length known) lt) after
    (subst (λ l. IsDocumentRead (length known) (picked pick (cells_at pairs (length known))) l state after) (sym is_own)
    (subst (λ n. IsDocumentRead n (picked pick (cells_at pairs n)) (get_or lists n []) state after) so_far.count read)))
