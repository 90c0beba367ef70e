use Rattle.std.proofs.Common.{◌≡◌, ◌∙◌, ⊎_elim, inl, inr, ap₂}
use Rattle.attributes.specs.Map.{empty}
use Rattle.delta.specs.Operation.{retain, op_out}
use Rattle.delta.specs.Cursor.{operation_of_part, operations_left}
use Rattle.xform.proofs.Steps.{bare-from, step-first}
use Rattle.xform.proofs.stepping.pass_first.Goals as goal

pub returns : goal.returns
returns c =
    let kept : c.retain-kept.result ≡ retain (op_out (operation_of_part c.args.one)) empty = c.retain-kept.ensures ∙ ap₂ retain c.out_len.ensures c.new.ensures in
    rw (kept, c.new-2.ensures)
    (step-first (operation_of_part c.args.one) c.args.others.now (operations_left c.args.second) c.args.priority c.requires.inserts
    (⊎_elim inl (λ other. inr (bare-from (operations_left c.args.second) c.requires.second other)) c.requires.turn))
