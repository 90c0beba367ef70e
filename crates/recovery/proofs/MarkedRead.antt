-- Marks that are made of what was read.
use Rattle.std.proofs.Common.{◌≡◌, ◌≢◌, inl, inr, ℕ, zero, suc, ◌+◌, ◌≤◌, ◌<◌, max, true, false, Option, Some, None, List, [], ◌∷◌, ◌++◌, length, map, take, drop, get_or, refl, sym, ◌∙◌, ap, subst, arith}
use Rattle.std.specs.Prelude.{nat_lt}
use Rattle.std.proofs.lemmas.Bool.Decides.{nat_tests}
use Rattle.std.specs.List.{AllByRecursion}
use Rattle.std.proofs.lemmas.Bool.{cases_lt}
use Rattle.std.proofs.lemmas.List.Elements.{recursion_from_All}
use Rattle.std.proofs.lemmas.List.{append-nil}
use Rattle.std.proofs.lemmas.List.Concat.{flat_map-append}
use Rattle.recovery.proofs.Splitting.{split}
use Rattle.revision.specs.Command.{Taken}
use Rattle.journal.specs.BatchSpelling.{IsBatch, batch}
use Rattle.history.specs.Entries.{greatest}
use Rattle.segments.specs.Slot.{Segment}
use Rattle.segments.specs.Numbers.{NumbersDiffer}
use Rattle.segments.specs.Table.{slot_at, numbers_of}
use Rattle.segments.specs.Order.{inserted, segments_of}
use Rattle.segments.specs.Recovered.{segment_in}
use Rattle.segments.specs.declared.reading.RecoveredSegment.{RecoveredSegment}
use Rattle.recovery.specs.declared.marks.Mark.{Mark}
use Rattle.recovery.specs.Marks.{greatest_marked, IsNoted}
use Rattle.recovery.specs.Marked.{IsMarked, AreMarked, AreBodiesMarked}
use Rattle.recovery.specs.Found.{commands_of}
use Rattle.recovery.proofs.Marked.{greatest_both, last_spelled, number_there}
use Rattle.segments.proofs.CallerLemmas.{each_of}

-- no bodies
pub no_bodies : (number : ℕ) (marks : List Mark) → AreBodiesMarked number [] marks marks
no_bodies number marks = record {
  here = λ batches spelled each document. omega (arith, ap (λ (b : List (List Taken)). greatest document (commands_of b)) (none batches spelled));
  segments = λ other document apart. refl;
}
  where
    none : (batches : List (List Taken)) → [] ≡ map batch batches → batches ≡ []
    none [] is = refl
    none (first ∷ others) is = absurd cc

-- one body, which spells a batch
pub one_noted : (number : ℕ) (body : List ℕ) (commands : List Taken) (before after : List Mark) → IsBatch commands → body ≡ batch commands → IsNoted number commands before after
    → AreBodiesMarked number (body ∷ []) before after
one_noted number body commands before after is spelled noted = record {
  here = λ batches same each document.
      let r = last_spelled [] commands batches is (recursion_from_All IsBatch batches each) (ap (λ (l : List ℕ). l ∷ []) (sym spelled) ∙ same) in
      let nothing : r.0 ≡ [] = no_batches r.0 r.1 in
      let all : greatest document (commands_of batches) ≡ greatest document commands =
      ap (λ (b : List (List Taken)). greatest document (commands_of b)) (r.3 ∙ ap (λ (b : List (List Taken)). b ++ commands ∷ []) nothing) ∙ ap (greatest document) (append-nil commands) in
      omega (arith, all, noted.here document);
  segments = noted.segments;
}
  where
    no_batches : (batches : List (List Taken)) → [] ≡ map batch batches → batches ≡ []
    no_batches [] is = refl
    no_batches (first ∷ others) is = absurd cc

-- bodies behind others
pub bodies_more : (number : ℕ) (first second : List (List ℕ)) (before mid after : List Mark) → AreBodiesMarked number first before mid → AreBodiesMarked number second mid after
    → AreBodiesMarked number (first ++ second) before after
bodies_more number first second before mid after one other = record {
  here = λ batches same each document.
      let parts = split first second batches same (recursion_from_All IsBatch batches each) in
      let all : greatest document (commands_of batches) ≡ max (greatest document (commands_of parts.left)) (greatest document (commands_of parts.gone)) =
      ap (λ (b : List (List Taken)). greatest document (commands_of b)) parts.both ∙ ap (greatest document) (flat_map-append (λ (c : List Taken). c) parts.gone parts.left)
      ∙ greatest_both document (commands_of parts.gone) (commands_of parts.left) in
      omega (arith, all, one.here parts.gone parts.gone_spelled parts.gone_each document, other.here parts.left parts.left_spelled parts.left_each document);
  segments = λ n document apart. other.segments n document apart ∙ one.segments n document apart;
}

-- the segments are in ascending order of their numbers, all above a bound
abbrev pub Ascending : ℕ → List Segment → Type 0
Ascending bound [] = Unit {0}
Ascending bound (first ∷ others) = (bound ≤ first.number) × Ascending (first.number + 1) others

abbrev AllOther : ℕ → List Segment → Type 0
AllOther number segments = AllByRecursion (λ (s : Segment). s.number ≢ number) segments

ascending_inserted : (bound : ℕ) (x : Segment) (l : List Segment) → bound ≤ x.number → AllOther x.number l → Ascending bound l → Ascending bound (inserted x l)
ascending_inserted bound x [] low other up = (low, tt)
ascending_inserted bound x (first ∷ rest) low other up = elim (cases_lt x.number first.number) [
  | inl less ↦ subst (Ascending bound) (sym (before x first rest less)) (low, (omega (arith, less), up.1))
  | inr more ↦ subst (Ascending bound) (sym (behind x first rest more)) (up.0, ascending_inserted (first.number + 1) x rest (omega (arith, more, other.0)) other.1 up.1)
]
  where
    before : (x first : Segment) (rest : List Segment) → x.number < first.number → inserted x (first ∷ rest) ≡ x ∷ first ∷ rest
    before x first rest less = let test : nat_lt x.number first.number ≡ true = grind (arith, nat_tests) in rw test refl

    behind : (x first : Segment) (rest : List Segment) → first.number ≤ x.number → inserted x (first ∷ rest) ≡ first ∷ inserted x rest
    behind x first rest more = let test : nat_lt x.number first.number ≡ false = grind (arith, nat_tests) in rw test refl

from_inserted : (P : Segment → Type 0) (x : Segment) (l : List Segment) → AllByRecursion P (inserted x l) → P x × AllByRecursion P l
from_inserted P x [] each = (each.0, tt)
from_inserted P x (first ∷ rest) each = elim (cases_lt x.number first.number) [
  | inl less ↦
      let test : nat_lt x.number first.number ≡ true = grind (arith, nat_tests) in
      let all : AllByRecursion P (x ∷ first ∷ rest) = rw test at each in
      (all.0, all.1)
  | inr more ↦
      let test : nat_lt x.number first.number ≡ false = grind (arith, nat_tests) in
      let all : AllByRecursion P (first ∷ inserted x rest) = rw test at each in
      let r = from_inserted P x rest all.1 in
      (r.0, (all.0, r.1))
]

to_slots : (P : Segment → Type 0) (table : List (Option Segment)) → AllByRecursion P (segments_of table) → (slot : ℕ) (segment : Segment) → slot_at table slot ≡ Some segment → P segment
to_slots P [] each slot segment is = absurd cc
to_slots P (None ∷ table) each zero segment is = absurd cc
to_slots P (None ∷ table) each (suc slot) segment is = to_slots P table each slot segment is
to_slots P (Some x ∷ table) each zero segment is =
    let same : x ≡ segment = cc in
    subst P same (from_inserted P x (segments_of table) each).0
to_slots P (Some x ∷ table) each (suc slot) segment is = to_slots P table (from_inserted P x (segments_of table) each).1 slot segment is

differ_rest : (first : Option Segment) (table : List (Option Segment)) → NumbersDiffer (numbers_of (first ∷ table)) → NumbersDiffer (numbers_of table)
differ_rest first table differ slot other number a b = omega (arith, differ (suc slot) (suc other) number a b)

pub ascending : (table : List (Option Segment)) → NumbersDiffer (numbers_of table) → Ascending 0 (segments_of table)
ascending [] differ = tt
ascending (None ∷ table) differ = ascending table (differ_rest None table differ)
ascending (Some x ∷ table) differ =
    ascending_inserted 0 x (segments_of table) (omega arith)
    (each_of (λ (s : Segment). s.number ≢ x.number) table (λ slot s is same.
    let one : suc slot ≡ 0 = differ (suc slot) 0 x.number (number_there table slot s is ∙ ap (λ (n : ℕ). Some n) same) refl in
    absurd (omega (arith, one))))
    (ascending table (differ_rest (Some x) table differ))

-- marks of segments that were noted one after another: each has its own, and no other number has any
pub record AreRead (segments : List Segment) (marks : List Mark) : Type 0 where
  pub each : AllByRecursion (λ (s : Segment). IsMarked s marks) segments
  pub others : (number : ℕ) → AllOther number segments → (document : ℕ) → greatest_marked number document marks ≡ 0

pub none_read : AreRead [] []
none_read = record { each = tt; others = λ number away document. refl }

-- a bound of all numbers so far: the next one is another
push_all : (P : Segment → Type 0) (l : List Segment) (x : Segment) → AllByRecursion P l → P x → AllByRecursion P (l ++ x ∷ [])
push_all P [] x each is = (is, tt)
push_all P (first ∷ rest) x each is = (each.0, push_all P rest x each.1 is)

pop_all : (P : Segment → Type 0) (l : List Segment) (x : Segment) → AllByRecursion P (l ++ x ∷ []) → AllByRecursion P l × P x
pop_all P [] x each = (tt, each.0)
pop_all P (first ∷ rest) x each = let r = pop_all P rest x each.1 in ((each.0, r.0), r.1)

both_all : (P Q R : Segment → Type 0) (l : List Segment) → ((s : Segment) → P s → Q s → R s) → AllByRecursion P l → AllByRecursion Q l → AllByRecursion R l
both_all P Q R [] f p q = tt
both_all P Q R (first ∷ rest) f p q = (f first p.0 q.0, both_all P Q R rest f p.1 q.1)

pub read_more : (segments : List Segment) (next : Segment) (before after : List Mark) → AllOther next.number segments → AreRead segments before
    → AreBodiesMarked next.number next.bodies before after → AreRead (segments ++ next ∷ []) after
read_more segments next before after apart read marked = record {
  each = push_all (λ (s : Segment). IsMarked s after) segments next
      (both_all (λ (s : Segment). IsMarked s before) (λ (s : Segment). s.number ≢ next.number) (λ (s : Segment). IsMarked s after) segments
      (λ s was away batches spell document. marked.segments s.number document away ∙ was batches spell document) read.each apart)
      (λ batches spell document. omega (arith, marked.here batches spell.spelled spell.each document, read.others next.number apart document));
  others = λ number away document.
      let parts = pop_all (λ (s : Segment). s.number ≢ number) segments next away in
      marked.segments number document (λ same. parts.1 (sym same)) ∙ read.others number parts.0 document;
}

-- the first of segments in ascending order are others than the next
others_before : (bound : ℕ) (first : List Segment) (next : Segment) (rest : List Segment) → Ascending bound (first ++ next ∷ rest) → (bound ≤ next.number) × AllOther next.number first
others_before bound [] next rest up = (up.0, tt)
others_before bound (x ∷ first) next rest up =
    let r = others_before (x.number + 1) first next rest up.1 in
    (omega (arith, up.0, r.0), ((λ same. omega (arith, same, r.0)), r.1))

pub apart_from : (first : List Segment) (next : Segment) (rest : List Segment) → Ascending 0 (first ++ next ∷ rest) → AllOther next.number first
apart_from first next rest up = (others_before 0 first next rest up).1

-- the segment at a place is another than those before it
pub apart_at : (segments : List RecoveredSegment) (i : ℕ) (next : RecoveredSegment) → i < length segments → get_or segments i next ≡ next → Ascending 0 (map segment_in segments)
    → AllOther next.number (map segment_in (take i segments))
apart_at segments i next inside is up =
    apart_from (map segment_in (take i segments)) (segment_in next) (map segment_in (drop (suc i) segments)) (subst (Ascending 0) (parts segments i next inside is) up)
  where
    parts : (l : List RecoveredSegment) (i : ℕ) (next : RecoveredSegment) → i < length l → get_or l i next ≡ next
        → map segment_in l ≡ map segment_in (take i l) ++ segment_in next ∷ map segment_in (drop (suc i) l)
    parts [] i next inside is = absurd (omega (arith, inside))
    parts (x ∷ l) zero next inside is = ap (λ (y : RecoveredSegment). segment_in y ∷ map segment_in l) is
    parts (x ∷ l) (suc i) next inside is = ap (λ (m : List Segment). segment_in x ∷ m) (parts l i next (omega (arith, inside)) is)

-- all segments of a table were read
pub marked_read : (table : List (Option Segment)) (marks : List Mark) → AreRead (segments_of table) marks → AreMarked table marks
marked_read table marks read = record {
  each = to_slots (λ (s : Segment). IsMarked s marks) table read.each;
  others = λ number nowhere document.
      read.others number (each_of (λ (s : Segment). s.number ≢ number) table (λ slot s is same. nowhere slot (number_there table slot s is ∙ ap (λ (n : ℕ). Some n) same))) document;
}
