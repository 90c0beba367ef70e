use Rattle.std.proofs.Common.{◌≡◌, ◌∙◌, ◌<◌, ◌+◌, ℕ, Vec, List, [], ◌∷◌, ◌++◌, false, length, get_or, take, drop, map, sym, ap, subst, arith}
use Rattle.std.specs.declared.alloc.Global.{Global}
use Rattle.std.proofs.lemmas.List.{length-map, take_all, drop_all, append-nil}
use Rattle.std.proofs.lemmas.Result.{err_from_is_err_and}
use Rattle.revision.specs.Command.{Taken}
use Rattle.journal.specs.Scan.{items_of}
use Rattle.segments.specs.Slot.{Segment}
use Rattle.segments.specs.Recovered.{segment_in}
use Rattle.segments.specs.Order.{segments_of}
use Rattle.segments.specs.declared.reading.RecoveredSegment.{RecoveredSegment}
use Rattle.recovery.specs.declared.marks.Mark.{Mark}
use Rattle.recovery.specs.Marks.{marks_of}
use Rattle.recovery.specs.Marked.{AreBodiesMarked}
use Rattle.recovery.specs.Found.{SpellBatches, commands_of}
use Rattle.recovery.specs.steps.Reading.{lists_of, are_below, SpellGroups}
use Rattle.recovery.proofs.Gathering.{AddedBy, GatheredFrom, SpelledIn, map-at, map-within, map-take-more, by-count, gathered-none, gathered-more, spelled-in}
use Rattle.recovery.proofs.MarkedRead.{Ascending, AreRead, none_read, read_more, apart_at, ascending, marked_read}
use Rattle.recovery.proofs.reading.entries.gather.Goals as goal

abbrev commands_in : Vec Taken Global → List Taken
commands_in v = v.items

-- what is written over a whole list is all of it
written : {A : Type 0} (new old : List A) (len : ℕ) → length new ≡ length old → length old ≡ len → take len (new ++ drop (length new) old) ≡ new
written new old len same is =
    ap (λ l. take len (new ++ l)) (drop_all (length new) old (omega (arith, same))) ∙ (ap (take len) (append-nil new) ∙ take_all len new (omega (arith, same, is)))

-- the batches that the bodies of a segment spell among those of all
here : (segments : List RecoveredSegment) (i : ℕ) (item : RecoveredSegment) (groups : List (List (List Taken))) → i < length segments → item ≡ get_or segments i item
    → SpellGroups (map segment_in segments) groups → SpelledIn (items_of item.bodies.items) groups
here segments i item groups lt is spell =
    spelled-in (map segment_in segments) groups i (segment_in item) spell (map-within segment_in segments i lt) (map-at segment_in segments i item (segment_in item) lt is)

pub returns-in_err-add_bodies-clause-damaged : goal.returns-in_err-add_bodies-clause-damaged
returns-in_err-add_bodies-clause-damaged c =
    let p = err_from_is_err_and c.from_residual-in_err-add_bodies.result c.from_residual-in_err-add_bodies.ensures.1 in
    let long : length c.deref_mut.result.now ≡ c.args.docs = ap length c.deref_mut.ensures.value ∙ c.loop-segment.invariant.count in
    rw p.1 (λ is groups spell.
    let at = here c.args.segments.now c.loop-segment.segment-index c.segment-item.result groups c.loop-segment-test.true c.segment-item.is spell in
    let own : SpellBatches (items_of c.deref.result.now) at.batches =
    subst (λ (l : List (Vec ℕ Global)). SpellBatches (items_of l) at.batches) (sym c.deref.ensures.value) at.spell in
    at.part c.args.docs (subst (λ n. are_below n (commands_of at.batches) ≡ false) long (c.in_err-add_bodies.ensures.damaged (sym p.2 ∙ is) at.batches own)))

pub loop-segment-preserved : goal.loop-segment-preserved
loop-segment-preserved c =
    let i = c.loop-segment.segment-index in
    let segments = c.args.segments.now in
    let item = c.segment-item.result in
    let old = c.loop-segment.lists.items in
    let new = c.add_bodies.new.lists in
    let value : c.deref_mut.result.now ≡ old = c.deref_mut.ensures.value in
    let added : AddedBy (items_of item.bodies.items) (lists_of old) (lists_of new) =
    subst (λ (l : List (Vec ℕ Global)). AddedBy (items_of l) (lists_of old) (lists_of new)) c.deref.ensures.value
    (subst (λ (l : List (Vec Taken Global)). AddedBy (items_of c.deref.result.now) (lists_of l) (lists_of new)) value c.in_ok-add_bodies.ensures.added) in
    let count : length new ≡ length old =
    sym (length-map new commands_in) ∙ (by-count (items_of item.bodies.items) (lists_of old) (lists_of new) added ∙ length-map old commands_in) in
    let len : length old ≡ c.loop-segment.lists.len = ap length (sym value) ∙ c.deref_mut.ensures.len in
    let whole = written new old c.loop-segment.lists.len count len in
    let more : map segment_in (take (i + 1) segments) ≡ map segment_in (take i segments) ++ segment_in item ∷ [] =
    map-take-more segment_in segments i item c.loop-segment-test.true c.segment-item.is in
    let before = marks_of c.loop-segment.marks in
    let after = marks_of c.add_bodies.new.marks in
    let marked : AreBodiesMarked item.number (items_of item.bodies.items) before after =
    subst (λ (l : List (Vec ℕ Global)). AreBodiesMarked item.number (items_of l) before after) c.deref.ensures.value c.in_ok-add_bodies.ensures.marked in
    record {
      count = ap length whole ∙ (count ∙ c.loop-segment.invariant.count);
      gathered =
          subst (λ (l : List (Vec Taken Global)). GatheredFrom (map segment_in (take (i + 1) segments)) (lists_of l)) (sym whole)
          (subst (λ (s : List Segment). GatheredFrom s (lists_of new)) (sym more)
          (gathered-more (map segment_in (take i segments)) (segment_in item) (lists_of old) (lists_of new) c.loop-segment.invariant.gathered added));
      marked = λ up. subst (λ (l : List Segment). AreRead l after) (sym more)
          (read_more (map segment_in (take i segments)) (segment_in item) before after (apart_at segments i item c.loop-segment-test.true (sym c.segment-item.is) up) (c.loop-segment.invariant.marked up) marked);
    }

pub loop-segment-init : goal.loop-segment-init
loop-segment-init c = record {
  count = c.in_ok-lists.ensures.count;
  gathered = gathered-none (lists_of c.in_ok-lists.lists.items) c.in_ok-lists.ensures.empty;
  marked = λ up. subst (λ (m : List Mark). AreRead [] m) (sym c.new-marks.ensures) none_read;
}

pub returns-clause-marked : goal.returns-clause-marked
returns-clause-marked c table differ same =
    let segments = c.args.segments.now in
    let up : Ascending 0 (map segment_in segments) = subst (Ascending 0) (sym same) (ascending table differ) in
    let all : map segment_in (take c.loop-segment.segment-index segments) ≡ segments_of table =
    ap (λ (l : List RecoveredSegment). map segment_in l) (take_all c.loop-segment.segment-index segments c.loop-segment-test.false) ∙ same in
    marked_read table (marks_of c.loop-segment.marks) (subst (λ (l : List Segment). AreRead l (marks_of c.loop-segment.marks)) all (c.loop-segment.invariant.marked up))
