-- Marks of a table whose slots change.
use Rattle.std.proofs.Common.{◌≡◌, ◌≢◌, inl, inr, ℕ, ◌≤◌, ◌<◌, max, true, false, not, Option, Some, None, List, [], ◌∷◌, ◌++◌, length, map, set, filter, refl, sym, ◌∙◌, ap, subst, arith}
use Rattle.std.specs.Prelude.{◌==◌}
use Rattle.std.proofs.lemmas.Bool.{cases_eq}
use Rattle.std.proofs.lemmas.Bool.Decides.{nat_tests}
use Rattle.std.specs.Prelude.{All}
use Rattle.std.specs.List.{AllByRecursion}
use Rattle.std.proofs.lemmas.List.{get_or-set_same, get_or-set_other, length-map, map-set, set-get_or}
use Rattle.std.proofs.lemmas.List.Elements.{recursion_from_All, All-cons, All-nil}
use Rattle.revision.specs.Command.{Taken}
use Rattle.journal.specs.BatchSpelling.{IsBatch, batch}
use Rattle.journal.proofs.CallerLemmas.{one_spelling}
use Rattle.history.specs.Entries.{greatest}
use Rattle.history.specs.Cell.{Pair, cells_at, lowest}
use Rattle.history.specs.Law.{IsCovered}
use Rattle.history.proofs.CallerLemmas.{covered_by_greatest}
use Rattle.segments.specs.Slot.{Segment, number_of, empty_segment}
use Rattle.segments.specs.Numbers.{number_at, NumbersDiffer, IsNewest, IsOldest}
use Rattle.segments.specs.Table.{slot_at, numbers_of, IsOpened, IsAppended, IsRetired}
use Rattle.segments.proofs.CallerLemmas.{opened_differs}
use Rattle.recovery.specs.declared.marks.Mark.{Mark}
use Rattle.recovery.specs.Marks.{is_of, revision_for, greatest_marked, IsNoted}
use Rattle.recovery.specs.Marked.{SpellSegment, IsMarked, AreMarked}
use Rattle.recovery.specs.Found.{commands_of}
use Rattle.recovery.proofs.Folds.{commands_of-push}
pub use Rattle.segments.proofs.CallerLemmas.{number_held, number_there, slot_there as there}

pub some_same : (a b : Segment) → ◌≡◌ {A = Option Segment} (Some a) (Some b) → a ≡ b
some_same a b is = cc

-- another slot than the one that is set
elsewhere : (table : List (Option Segment)) (k slot : ℕ) (x : Option Segment) → slot ≢ k → slot_at (set table k x) slot ≡ slot_at table slot
elsewhere table k slot x other = get_or-set_other table k slot x None other

-- two open slots of different places have different numbers
apart : (table : List (Option Segment)) → NumbersDiffer (numbers_of table) → (k slot : ℕ) (x segment : Segment) → slot_at table k ≡ Some x → slot_at table slot ≡ Some segment → slot ≢ k → segment.number ≢ x.number
apart table differ k slot x segment has is other same =
    other (differ slot k x.number (number_there table slot segment is ∙ ap (λ (n : ℕ). Some n) same) (number_there table k x has))

-- a slot is opened
pub marked_opened : (table after : List (Option Segment)) (marks : List Mark) → NumbersDiffer (numbers_of table) → IsOpened table after → AreMarked table marks → AreMarked after marks
marked_opened table after marks differ opened marked =
    let k = opened.slot in
    let new = empty_segment opened.number in
    let differs : NumbersDiffer (numbers_of after) = opened_differs table after differ opened in
    let inside : k < length table = omega (arith, opened.next.free.there, numbers_long table) in
    let at_k : slot_at after k ≡ Some new = ap (λ (t : List (Option Segment)). slot_at t k) opened.is ∙ get_or-set_same table k (Some new) None inside in
    let at_other : (slot : ℕ) → slot ≢ k → slot_at after slot ≡ slot_at table slot = λ slot other. ap (λ (t : List (Option Segment)). slot_at t slot) opened.is ∙ elsewhere table k slot (Some new) other in
    let numbers_other : (slot : ℕ) → slot ≢ k → number_at (numbers_of after) slot ≡ number_at (numbers_of table) slot =
    λ slot other. number_held after slot ∙ ap number_of (at_other slot other) ∙ sym (number_held table slot) in
    let is_new : (slot : ℕ) → number_at (numbers_of table) slot ≢ Some opened.number = λ slot is. elim (cases_eq slot k) [
      | inl same ↦ absurd (let none : None ≡ Some opened.number = sym opened.next.free.closed ∙ rw (← same) is in cc)
      | inr other ↦ other (differs slot k opened.number (numbers_other slot other ∙ is) (number_there after k new at_k))
    ] in
    record {
      each = λ slot segment is. elim (cases_eq slot k) [
        | inl same ↦
            let this : segment ≡ new = some_same segment new (sym is ∙ ap (λ n. slot_at after n) same ∙ at_k) in
            subst (λ (s : Segment). IsMarked s marks) (sym this) (λ batches spell document.
            marked.others opened.number is_new document ∙ ap (λ (b : List (List Taken)). greatest document (commands_of b)) (sym (none_spelled batches (sym spell.spelled))))
        | inr other ↦ marked.each slot segment (sym (at_other slot other) ∙ is)
      ];
      others = λ number nowhere document. marked.others number (λ slot is. elim (cases_eq slot k) [
        | inl same ↦ absurd (let none : None ≡ Some number = sym opened.next.free.closed ∙ rw (← same) is in cc)
        | inr other ↦ nowhere slot (numbers_other slot other ∙ is)
      ]) document;
    }
  where
    numbers_long : (table : List (Option Segment)) → length (numbers_of table) ≡ length table
    numbers_long table = length-map table number_of

    none_spelled : (batches : List (List Taken)) → map batch batches ≡ [] → batches ≡ []
    none_spelled [] is = refl
    none_spelled (first ∷ others) is = absurd cc

-- the last of the batches that bodies spell, where the last body is known
pub last_spelled : (bodies : List (List ℕ)) (commands : List Taken) (batches : List (List Taken)) → IsBatch commands → AllByRecursion IsBatch batches → bodies ++ batch commands ∷ [] ≡ map batch batches
    → (before : List (List Taken)) × (bodies ≡ map batch before) × AllByRecursion IsBatch before × (batches ≡ before ++ commands ∷ [])
last_spelled [] commands [] is each same = absurd cc
last_spelled [] commands (only ∷ []) is each same =
    let here : batch commands ≡ batch only = cc in
    let one : commands ≡ only = (one_spelling commands only [] [] is each.0 (ap (λ (l : List ℕ). l ++ []) here)).0 in
    ([], refl, tt, ap (λ (c : List Taken). c ∷ []) (sym one))
last_spelled [] commands (first ∷ second ∷ others) is each same = absurd cc
last_spelled (body ∷ bodies) commands [] is each same = absurd cc
last_spelled (body ∷ bodies) commands (first ∷ others) is each same =
    let here : body ≡ batch first = cc in
    let rest : bodies ++ batch commands ∷ [] ≡ map batch others = cc in
    let r = last_spelled bodies commands others is each.1 rest in
    (first ∷ r.0, ap2 here r.1, (each.0, r.2), ap (λ (l : List (List Taken)). first ∷ l) r.3)
  where
    ap2 : {a b : List ℕ} {x y : List (List ℕ)} → a ≡ b → x ≡ y → a ∷ x ≡ b ∷ y
    ap2 p q i = p i ∷ q i

pub greatest_both : (document : ℕ) (first second : List Taken) → greatest document (first ++ second) ≡ max (greatest document second) (greatest document first)
greatest_both document [] second = omega arith
greatest_both document (taken ∷ others) second = elim (cases_eq taken.document document) [
  | inl same ↦ let test : (taken.document == document) ≡ true = grind (arith, nat_tests) in rw test (omega (arith, greatest_both document others second))
  | inr other ↦ let test : (taken.document == document) ≡ false = grind (arith, nat_tests) in rw test (greatest_both document others second)
]

-- two newest slots have one number
pub one_newest : (numbers : List (Option ℕ)) (s t m n : ℕ) → IsNewest numbers s m → IsNewest numbers t n → m ≡ n
one_newest numbers s t m n first second = omega (arith, first.highest t n second.has, second.highest s m first.has)

pub one_oldest : (numbers : List (Option ℕ)) (s t m n : ℕ) → IsOldest numbers s m → IsOldest numbers t n → m ≡ n
one_oldest numbers s t m n first second = omega (arith, first.lowest t n second.has, second.lowest s m first.has)

-- a batch is appended
pub marked_appended : (table after : List (Option Segment)) (commands : List Taken) (before now : List Mark) → NumbersDiffer (numbers_of table) → (appended : IsAppended table (batch commands) after)
    → IsBatch commands → IsNoted appended.segment.number commands before now → AreMarked table before → AreMarked after now
marked_appended table after commands before now differ appended is_batch noted marked =
    let k = appended.slot in
    let old = appended.segment in
    let new : Segment = record old { bodies = old.bodies ++ batch commands ∷ [] } in
    let inside : k < length table = there table k old appended.has in
    let at_k : slot_at after k ≡ Some new = ap (λ (t : List (Option Segment)). slot_at t k) appended.is ∙ get_or-set_same table k (Some new) None inside in
    let at_other : (slot : ℕ) → slot ≢ k → slot_at after slot ≡ slot_at table slot = λ slot other. ap (λ (t : List (Option Segment)). slot_at t slot) appended.is ∙ elsewhere table k slot (Some new) other in
    record {
      each = λ slot segment is. elim (cases_eq slot k) [
        | inl same ↦
            let this : segment ≡ new = some_same segment new (sym is ∙ ap (λ n. slot_at after n) same ∙ at_k) in
            subst (λ (s : Segment). IsMarked s now) (sym this) (λ batches spell document.
            let r = last_spelled old.bodies commands batches is_batch (recursion_from_All IsBatch batches spell.each) spell.spelled in
            let was = marked.each k old appended.has r.0 (record { spelled = r.1; each = each_again r.0 r.2 }) document in
            let all : greatest document (commands_of batches) ≡ max (greatest document commands) (greatest document (commands_of r.0)) =
            ap (λ (b : List (List Taken)). greatest document (commands_of b)) r.3 ∙ ap (greatest document) (commands_of-push r.0 commands) ∙ greatest_both document (commands_of r.0) commands in
            omega (arith, all, was, noted.here document))
        | inr other ↦
            let was : slot_at table slot ≡ Some segment = sym (at_other slot other) ∙ is in
            λ batches spell document. noted.segments segment.number document (apart table differ k slot old segment appended.has was other) ∙ marked.each slot segment was batches spell document
      ];
      others = λ number nowhere document.
          let not_this : number ≢ old.number = λ same. nowhere k (number_there after k new at_k ∙ ap (λ (n : ℕ). Some n) (sym same)) in
          noted.segments number document not_this ∙ marked.others number (λ slot is. elim (cases_eq slot k) [
            | inl same ↦ not_this (some_number number old.number (sym is ∙ ap (λ n. number_at (numbers_of table) n) same ∙ number_there table k old appended.has))
            | inr other ↦ nowhere slot (number_held after slot ∙ ap number_of (at_other slot other) ∙ sym (number_held table slot) ∙ is)
          ]) document;
    }
  where
    some_number : (a b : ℕ) → ◌≡◌ {A = Option ℕ} (Some a) (Some b) → a ≡ b
    some_number a b is = cc

    each_again : (batches : List (List Taken)) → AllByRecursion IsBatch batches → All IsBatch batches
    each_again [] each = All-nil IsBatch
    each_again (first ∷ others) each = All-cons IsBatch first others each.0 (each_again others each.1)

-- marks without those of a segment
forgotten_other : (segment number document : ℕ) (marks : List Mark) → number ≢ segment → greatest_marked number document (filter (λ mark. not (is_of segment mark)) marks) ≡ greatest_marked number document marks
forgotten_other segment number document [] other = refl
forgotten_other segment number document (first ∷ others) other = elim (cases_eq first.segment segment) [
  | inl same ↦
      let test : (first.segment == segment) ≡ true = grind (arith, nat_tests) in
      let away : (first.segment == number) ≡ false = grind (arith, nat_tests) in
      let nothing : revision_for number document first ≡ 0 = rw away refl in
      rw test (omega (arith, forgotten_other segment number document others other, nothing))
  | inr away ↦
      let test : (first.segment == segment) ≡ false = grind (arith, nat_tests) in
      rw test (ap (max (revision_for number document first)) (forgotten_other segment number document others other))
]

forgotten_here : (segment document : ℕ) (marks : List Mark) → greatest_marked segment document (filter (λ mark. not (is_of segment mark)) marks) ≡ 0
forgotten_here segment document [] = refl
forgotten_here segment document (first ∷ others) = elim (cases_eq first.segment segment) [
  | inl same ↦ let test : (first.segment == segment) ≡ true = grind (arith, nat_tests) in rw test (forgotten_here segment document others)
  | inr away ↦
      let test : (first.segment == segment) ≡ false = grind (arith, nat_tests) in
      let nothing : revision_for segment document first ≡ 0 = rw test refl in
      rw test (omega (arith, nothing, forgotten_here segment document others))
]

-- the oldest segment is retired
pub marked_retired : (table after : List (Option Segment)) (marks : List Mark) → NumbersDiffer (numbers_of table) → (retired : IsRetired table after) → AreMarked table marks
    → AreMarked after (filter (λ mark. not (is_of retired.segment.number mark)) marks)
marked_retired table after marks differ retired marked =
    let k = retired.slot in
    let old = retired.segment in
    let inside : k < length table = there table k old retired.has in
    let at_k : slot_at after k ≡ None = ap (λ (t : List (Option Segment)). slot_at t k) retired.is ∙ get_or-set_same table k None None inside in
    let at_other : (slot : ℕ) → slot ≢ k → slot_at after slot ≡ slot_at table slot = λ slot other. ap (λ (t : List (Option Segment)). slot_at t slot) retired.is ∙ elsewhere table k slot None other in
    record {
      each = λ slot segment is. elim (cases_eq slot k) [
        | inl same ↦ absurd (let none : None ≡ Some segment = sym at_k ∙ ap (λ n. slot_at after n) (sym same) ∙ is in cc)
        | inr other ↦
            let was : slot_at table slot ≡ Some segment = sym (at_other slot other) ∙ is in
            λ batches spell document. forgotten_other old.number segment.number document marks (apart table differ k slot old segment retired.has was other) ∙ marked.each slot segment was batches spell document
      ];
      others = λ number nowhere document. elim (cases_eq number old.number) [
        | inl same ↦ rw same (forgotten_here old.number document marks)
        | inr other ↦ forgotten_other old.number number document marks other ∙ marked.others number (λ slot is. elim (cases_eq slot k) [
          | inl same ↦ other (some_number number old.number (sym is ∙ ap (λ n. number_at (numbers_of table) n) same ∙ number_there table k old retired.has))
          | inr away ↦ nowhere slot (number_held after slot ∙ ap number_of (at_other slot away) ∙ sym (number_held table slot) ∙ is)
        ]) document
      ];
    }
  where
    some_number : (a b : ℕ) → ◌≡◌ {A = Option ℕ} (Some a) (Some b) → a ≡ b
    some_number a b is = cc

-- entries are covered where the marks of their segment are
pub covered_by_marks : (cells : List Pair) (segment : Segment) (marks : List Mark) → IsMarked segment marks
    → ((document : ℕ) → greatest_marked segment.number document marks ≤ lowest (cells_at cells document))
    → (batches : List (List Taken)) → SpellSegment segment batches → All (IsCovered cells) (commands_of batches)
covered_by_marks cells segment marks marked low batches spell =
    (covered_by_greatest cells (commands_of batches)).1 (λ document. omega (arith, low document, marked batches spell document))

-- an append keeps the numbers
pub numbers_kept : (table after : List (Option Segment)) (body : List ℕ) → IsAppended table body after → numbers_of after ≡ numbers_of table
numbers_kept table after body appended =
    ap numbers_of appended.is ∙ map-set number_of table appended.slot (Some (record appended.segment { bodies = appended.segment.bodies ++ body ∷ [] }))
    ∙ put_again (numbers_of table) appended.slot (Some appended.segment.number) (number_there table appended.slot appended.segment appended.has)
  where
    put_again : (numbers : List (Option ℕ)) (k : ℕ) (x : Option ℕ) → number_at numbers k ≡ x → set numbers k x ≡ numbers
    put_again numbers k x is = ap (λ (o : Option ℕ). set numbers k o) (sym is) ∙ set-get_or numbers k None
