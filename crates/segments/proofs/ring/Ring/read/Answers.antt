use Rattle.std.proofs.Common.{◌≡◌, ◌∙◌, ℕ, Option, List, length, map, refl, sym, ap, subst, arith, rules}
use Rattle.std.proofs.lemmas.List.{length-map}
use Rattle.std.proofs.lemmas.Result.{err_from_is_err_and}
use Rattle.segments.specs.declared.reading.ReadSegment.{ReadSegment}
use Rattle.segments.specs.Numbers.{NumbersDiffer}
use Rattle.segments.specs.steps.Reading.{segment_of, number_read, IsNewestRead}
use Rattle.segments.proofs.RingsRead.{slot_damaged, same_damaged, ring_read, area_in_ring}
use Rattle.segments.proofs.ring.Ring.read.Goals as goal

pub returns-in_err-slots-clause-damaged : goal.returns-in_err-slots-clause-damaged
returns-in_err-slots-clause-damaged g c =
    let p = err_from_is_err_and c.from_residual.result c.from_residual.ensures.1 in
    rw p.1 (λ is honest. slot_damaged c.args.at c.args.size c.args.count _ (c.in_err-slots.ensures.damaged (sym p.2 ∙ is) honest))

pub returns-then-not-differ-clause-damaged : goal.returns-then-not-differ-clause-damaged
returns-then-not-differ-clause-damaged g c is honest =
    let slots = c.in_ok-slots.slots.items in
    let numbers : c.in_ok-numbers.numbers.items ≡ map number_read slots = c.in_ok-numbers.ensures.numbers ∙ ap (λ (l : List (Option ReadSegment)). map number_read l) c.deref.ensures.value in
    let same : ¬ NumbersDiffer c.in_ok-numbers.numbers.items = search rules in
    same_damaged c.args.at c.args.size c.args.count (g.D.Disk.seen c.args.disk.now) slots c.in_ok-slots.ensures.count (c.in_ok-slots.ensures.found honest) (subst (λ (l : List (Option ℕ)). ¬ NumbersDiffer l) numbers same)

pub invariant_of-ring : goal.invariant_of-ring
invariant_of-ring g c =
    let slots = c.in_ok-slots.slots.items in
    let numbers : c.in_ok-numbers.numbers.items ≡ map number_read slots = c.in_ok-numbers.ensures.numbers ∙ ap (λ (l : List (Option ReadSegment)). map number_read l) c.deref.ensures.value in
    let newest : IsNewestRead c.in_ok-numbers.numbers.items slots c.newest_area-newest.result = search rules in
    let count : length c.in_ok-numbers.numbers.items ≡ c.args.count = ap length numbers ∙ length-map slots number_read ∙ c.in_ok-slots.ensures.count in
    record {
      size_low = search rules;
      size_high = search rules;
      end = rw count c.requires.end;
      newest_begins = λ area is.
          (area_in_ring c.args.at c.args.size c.args.count slots c.in_ok-slots.ensures.count c.in_ok-slots.ensures.areas (omega (arith, c.requires.low)) c.in_ok-numbers.numbers.items numbers _ newest area is).0;
      newest_ends = λ area is.
          rw count (area_in_ring c.args.at c.args.size c.args.count slots c.in_ok-slots.ensures.count c.in_ok-slots.ensures.areas (omega (arith, c.requires.low)) c.in_ok-numbers.numbers.items numbers _ newest area is).1;
    }

pub returns-clause-found : goal.returns-clause-found
returns-clause-found g c honest =
    let slots = c.in_ok-slots.slots.items in
    let numbers : c.in_ok-numbers.numbers.items ≡ map number_read slots = c.in_ok-numbers.ensures.numbers ∙ ap (λ (l : List (Option ReadSegment)). map number_read l) c.deref.ensures.value in
    let newest : IsNewestRead c.in_ok-numbers.numbers.items slots c.newest_area-newest.result = search rules in
    let differ : NumbersDiffer c.in_ok-numbers.numbers.items = search rules in
    record {
      table = map segment_of slots;
      fits = ring_read c.args.at c.args.size c.args.count (g.D.Disk.seen c.args.disk.now) slots c.in_ok-slots.ensures.count (c.in_ok-slots.ensures.found honest) _ c.newest_area-newest.result
          refl refl refl numbers c.in_ok-slots.ensures.areas differ newest;
      segments = c.in_ok-segments.ensures.order;
    }
