use Rattle.std.proofs.Common.{arith, ap, length, rules}
use Rattle.std.proofs.lemmas.List.{get_or_read, length-map}
use Rattle.segments.specs.steps.Reading.{number_read}
use Rattle.segments.proofs.RingsRead.{newest_read, none_read}
use Rattle.segments.proofs.reading.newest_area.Goals as goal

pub returns-in-Some : goal.returns-in-Some
returns-in-Some c =
    newest_read c.args.numbers.now c.args.slots.now c.requires c.in-Some.slot c.in-Some.ensures.newest.0 c.in-Some.ensures.newest.1 c.index-slots-slot.result
    (get_or_read c.args.slots.now c.in-Some.slot c.index-slots-slot.result (omega (arith, c.in-Some.ensures.there, ap length c.requires, length-map c.args.slots.now number_read)) c.index-slots-slot.is _)
    c.area_of.result c.area_of.ensures

pub returns-in-None : goal.returns-in-None
returns-in-None c = none_read c.args.numbers.now c.args.slots.now c.requires (search rules)
