use Rattle.std.proofs.Common.{◌++◌, min, ap, ◌∙◌}
use Rattle.std.specs.Prelude.{Err}
use Rattle.std.specs.Option.{option_to_list}
use Rattle.delta.specs.Operation.{op_len}
use Rattle.delta.specs.Cursor.{operation_of_part, operations_left}
use Rattle.compose.proofs.Meetings.{some-min, met_made, met_shorter, pair_cut}
use Rattle.compose.proofs.stepping.meet.Goals as goal

pub take-requires-clause-some : goal.take-requires-clause-some
take-requires-clause-some c =
    let is_min = c.min-len.ensures ∙ (ap (λ k. min k c.len16-2.result) c.len16.ensures ∙ ap (min (op_len (operation_of_part c.args.op))) c.len16-2.ensures) in
    some-min (operation_of_part c.args.op) (operation_of_part c.args.next) c.args.rest.now c.min-len.result c.requires.first.0 c.requires.second is_min

pub returns-in_err-part-clause-cut : goal.returns-in_err-part-clause-cut
returns-in_err-part-clause-cut c =
    λ _ more normal.
    let is_min = c.min-len.ensures ∙ (ap (λ k. min k c.len16-2.result) c.len16.ensures ∙ ap (min (op_len (operation_of_part c.args.op))) c.len16-2.ensures) in
    pair_cut (operation_of_part c.args.op) (operation_of_part c.args.next) (c.args.tail.now ++ more) c.args.rest.now c.min-len.result c.requires.stays c.requires.stands normal c.requires.second is_min
    (c.in_err-part.ensures.cut.0 (ap Err c.in_err-part.ensures.only))

pub returns-clause-step : goal.returns-clause-step
returns-clause-step c =
    let is_min = c.min-len.ensures ∙ (ap (λ k. min k c.len16-2.result) c.len16.ensures ∙ ap (min (op_len (operation_of_part c.args.op))) c.len16-2.ensures) in
    record {
      step = met_made (operation_of_part c.args.op) (operation_of_part c.args.next) (operation_of_part c.in_ok-part.part) c.args.tail.now c.args.rest.now (option_to_list c.in_ok-both.field-0) (operations_left c.in_ok-part.first) (operations_left c.past.result) c.min-len.result
          c.requires.stays c.requires.stands c.requires.second is_min (λ cut. let bad = c.in_ok-part.ensures.cut.1 cut in absurd (cc))
          c.in_ok-part.ensures.first c.in_ok-both.ensures.made c.in_ok-part.ensures.left c.past.ensures;
      shorter = met_shorter (operation_of_part c.args.op) (operation_of_part c.args.next) (operation_of_part c.in_ok-part.part) c.args.tail.now c.args.rest.now (option_to_list c.in_ok-both.field-0) (operations_left c.in_ok-part.first) (operations_left c.past.result) c.min-len.result
          c.requires.first c.requires.second is_min
          c.in_ok-part.ensures.first c.in_ok-both.ensures.made c.in_ok-part.ensures.left c.past.ensures;
    }
