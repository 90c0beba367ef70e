use Rattle.std.proofs.Common.{◌≡◌, ◌∙◌, ◌+◌, ◌<◌, false, length, ap, sym, subst, arith, get_or}
use Rattle.std.specs.Str.{IsCharBoundary}
use Rattle.utf16.specs.Begun.{begun, continues}
use Rattle.utf16.proofs.Begun.{begun_in-take-le}
use Rattle.utf16.proofs.Places.{IsCounted, IsCounted-more, boundary_of, units_before}
use Rattle.utf16.proofs.cut.place_at.Goals as goal
use Rattle.utf16.proofs.cut.place_at.Goals.{After-from-units, else-units-at-via-then-units-at+else-not-is_continuation, else-units-at-via-else-units-at}

within : (c : After-from-units) → c.loop-bytes.bytes < length c.args.text.now
within c = omega (arith, c.loop-bytes-test.true, ap length c.as_bytes-all.ensures.value)

byte_is : (c : After-from-units) → get_or c.as_bytes-all.result.now c.loop-bytes.bytes 0 ≡ get_or c.args.text.now c.loop-bytes.bytes 0
byte_is c = ap (λ l. get_or l c.loop-bytes.bytes 0) c.as_bytes-all.ensures.value

earlier : (c : After-from-units) → continues (get_or c.args.text.now c.loop-bytes.bytes 0) ≡ false → c.loop-bytes.units < c.args.at
earlier c begins =
    let here = ap continues (byte_is c) in
    elim c.else-units-at.branch [
      | else-units-at-via-then-units-at+else-not-is_continuation w ↦ absurd (let e = sym w.if-not-is_continuation.false ∙ (w.is_continuation.ensures ∙ (here ∙ begins)) in cc)
      | else-units-at-via-else-units-at w ↦ w.if-units-at.false
    ]

turn : (c : After-from-units) → IsCounted c.args.text.now (c.loop-bytes.bytes + 1) (c.loop-bytes.units + c.from-units.result) c.args.at
turn c =
    let text = c.args.text.now in
    let counts : c.from-units.result ≡ begun (get_or text c.loop-bytes.bytes 0) = c.from-units.ensures ∙ (c.units_begun.ensures ∙ ap begun (byte_is c)) in
    subst (λ n. IsCounted text (c.loop-bytes.bytes + 1) (c.loop-bytes.units + n) c.args.at) (sym counts)
    (IsCounted-more text c.loop-bytes.bytes c.loop-bytes.units c.args.at c.utf8.text (within c) c.loop-bytes.invariant (earlier c))

pub overflow_add-units : goal.overflow_add-units
overflow_add-units c =
    let counted = turn (goal.at.overflow_add-units c).After-from-units in
    omega (arith, counted.units_are, counted.inside, begun_in-take-le c.args.text.now (c.loop-bytes.bytes + 1) counted.inside)

pub loop-bytes-preserved : goal.loop-bytes-preserved
loop-bytes-preserved c = turn (goal.at.loop-bytes-preserved c).After-from-units

pub returns-after-loop-bytes-clause-units : goal.returns-after-loop-bytes-clause-units
returns-after-loop-bytes-clause-units c =
    let text = c.args.text.now in
    let end : IsCharBoundary text c.loop-bytes.bytes =
    (c.loop-bytes.invariant.inside, λ inside. absurd (omega (arith, inside, c.loop-bytes-test.false, ap length c.as_bytes-all.ensures.value))) in
    c.loop-bytes.invariant.units_are ∙ units_before text c.loop-bytes.bytes c.utf8.text end

pub returns-then-not-is_continuation-clause-units : goal.returns-then-not-is_continuation-clause-units
returns-then-not-is_continuation-clause-units c =
    let text = c.args.text.now in
    let bytes = c.loop-bytes.bytes in
    let begins : continues (get_or text bytes 0) ≡ false =
    sym (ap (λ l. continues (get_or l bytes 0)) c.as_bytes-all.ensures.value) ∙ (sym c.is_continuation.ensures ∙ c.if-not-is_continuation.true) in
    let boundary = boundary_of text bytes (omega (arith, c.loop-bytes-test.true, ap length c.as_bytes-all.ensures.value)) begins in
    c.loop-bytes.invariant.units_are ∙ units_before text bytes c.utf8.text boundary
