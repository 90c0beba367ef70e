use Rattle.std.proofs.Common.{◌≡◌, inl, inr, ◌≤◌, true, false, List, [], ◌∷◌, ap, refl, sym, subst, ◌∙◌, arith}
use Rattle.std.specs.Prelude.{Err}
use Rattle.std.proofs.lemmas.Result.{err_from_is_err_and}
use Rattle.delta.specs.Operation.{Operation, op_len, is_insert, is_delete}
use Rattle.delta.specs.Cursor.{operations_left, operation_of_part}
use Rattle.std.specs.Option.{option_to_list}
use Rattle.delta.specs.Normal.{IsNormal}
use Rattle.delta.specs.Parts.{left_after}
use Rattle.compose.specs.steps.PartlyComposed.{ComposesFurther, IsRefusedPartway}
use Rattle.compose.proofs.LaidOver.{not-begun, further-step, further-then, refused-step, refused-then, refused-inserts, alone-step, whole-step}
use Rattle.compose.proofs.Outcomes.{handed_on}
use Rattle.compose.proofs.laying.lay_over.Goals as goal

pub returns-then-is_delete-clause-on : goal.returns-then-is_delete-clause-on
returns-then-is_delete-clause-on c =
    let deletes : is_delete c.args.op ≡ true = sym c.is_delete.ensures ∙ c.if-is_delete.true in
    further-step c.args.out.now c.args.out.now c.add.new.out (c.args.op ∷ []) (operations_left c.args.second) (c.args.op ∷ []) (c.args.op ∷ []) (operations_left c.args.second) [] (operations_left c.args.second)
    (not-begun c.args.out.now (c.args.op ∷ []) (operations_left c.args.second)) (alone-step c.args.op (operations_left c.args.second) c.requires.first c.requires.second (inr deletes)) c.in_ok-add.ensures.added

pub returns-in_err-add-clause-refused : goal.returns-in_err-add-clause-refused
returns-in_err-add-clause-refused c =
    let deletes : is_delete c.args.op ≡ true = sym c.is_delete.ensures ∙ c.if-is_delete.true in
    let p = err_from_is_err_and c.from_residual.result c.from_residual.ensures.1 in
    handed_on (IsRefusedPartway c.args.out.now (c.args.op ∷ []) (operations_left c.args.second)) c.from_residual.result p.0 c.in_err-add.field-0.0 p.1 p.2
    (refused-step c.args.out.now c.args.out.now (c.args.op ∷ []) (operations_left c.args.second) (c.args.op ∷ []) (c.args.op ∷ []) (operations_left c.args.second) [] (operations_left c.args.second) c.in_err-add.field-0.0
    (not-begun c.args.out.now (c.args.op ∷ []) (operations_left c.args.second)) (alone-step c.args.op (operations_left c.args.second) c.requires.first c.requires.second (inr deletes))
    (λ bad. c.in_err-add.ensures.bad (ap Err bad)) c.in_err-add.ensures.only)

pub returns-in_err-second-clause-refused : goal.returns-in_err-second-clause-refused
returns-in_err-second-clause-refused c =
    let p = err_from_is_err_and c.from_residual-in_err-second.result c.from_residual-in_err-second.ensures.1 in
    handed_on (IsRefusedPartway c.args.out.now (c.args.op ∷ []) (operations_left c.args.second)) c.from_residual-in_err-second.result p.0 c.in_err-second.field-0.0 p.1 p.2
    (refused-inserts c.args.out.now c.args.op (operations_left c.args.second) c.in_err-second.field-0.0 c.in_err-second.ensures.refused)

pub returns-in_ok-add-in-None-clause-on : goal.returns-in_ok-add-in-None-clause-on
returns-in_ok-add-in-None-clause-on c =
    let ended : ◌≡◌ {A = List Operation} (operations_left c.in_ok-second.second) [] = c.in-None.ensures in
    let after : List Operation = operations_left c.in_ok-second.second in
    further-then c.args.out.now c.pass_inserts.new.out c.add-in-None.new.out c.args.op (operations_left c.args.second) after after c.in_ok-second.ensures.on
    (further-step c.pass_inserts.new.out c.pass_inserts.new.out c.add-in-None.new.out (c.args.op ∷ []) after (c.args.op ∷ []) (c.args.op ∷ []) after [] after
    (not-begun c.pass_inserts.new.out (c.args.op ∷ []) after) (alone-step c.args.op after c.requires.first c.in_ok-second.ensures.second (inl ended)) c.in_ok-add-in-None.ensures.added)

pub returns-in_err-add-in-None-clause-refused : goal.returns-in_err-add-in-None-clause-refused
returns-in_err-add-in-None-clause-refused c =
    let ended : ◌≡◌ {A = List Operation} (operations_left c.in_ok-second.second) [] = c.in-None.ensures in
    let after : List Operation = operations_left c.in_ok-second.second in
    let p = err_from_is_err_and c.from_residual-in_err-add-in-None.result c.from_residual-in_err-add-in-None.ensures.1 in
    handed_on (IsRefusedPartway c.args.out.now (c.args.op ∷ []) (operations_left c.args.second)) c.from_residual-in_err-add-in-None.result p.0 c.in_err-add-in-None.field-0.0 p.1 p.2
    (refused-then c.args.out.now c.pass_inserts.new.out c.args.op (operations_left c.args.second) after c.in_err-add-in-None.field-0.0 c.in_ok-second.ensures.on
    (refused-step c.pass_inserts.new.out c.pass_inserts.new.out (c.args.op ∷ []) after (c.args.op ∷ []) (c.args.op ∷ []) after [] after c.in_err-add-in-None.field-0.0
    (not-begun c.pass_inserts.new.out (c.args.op ∷ []) after) (alone-step c.args.op after c.requires.first c.in_ok-second.ensures.second (inl ended))
    (λ bad. c.in_err-add-in-None.ensures.bad (ap Err bad)) c.in_err-add-in-None.ensures.only))

pub returns-in_err-rest-in-Some-clause-refused : goal.returns-in_err-rest-in-Some-clause-refused
returns-in_err-rest-in-Some-clause-refused c =
    let full : ◌≡◌ {A = List Operation} (operations_left c.before-whole.result) (c.args.op ∷ []) = c.before-whole.ensures ∙ ap (λ (o : Operation). o ∷ []) c.whole.ensures in
    let after : List Operation = operations_left c.in_ok-second.second in
    let p = err_from_is_err_and c.from_residual-in_err-rest-in-Some.result c.from_residual-in_err-rest-in-Some.ensures.1 in
    handed_on (IsRefusedPartway c.args.out.now (c.args.op ∷ []) (operations_left c.args.second)) c.from_residual-in_err-rest-in-Some.result p.0 c.in_err-rest-in-Some.field-0.0 p.1 p.2
    (refused-then c.args.out.now c.pass_inserts.new.out c.args.op (operations_left c.args.second) after c.in_err-rest-in-Some.field-0.0 c.in_ok-second.ensures.on
    (subst (λ (l : List Operation). IsRefusedPartway c.pass_inserts.new.out l after c.in_err-rest-in-Some.field-0.0) full c.in_err-rest-in-Some.ensures.refused))

pub returns-then-is_insert-clause-on : goal.returns-then-is_insert-clause-on
returns-then-is_insert-clause-on c =
    let full : ◌≡◌ {A = List Operation} (operations_left c.before-whole.result) (c.args.op ∷ []) = c.before-whole.ensures ∙ ap (λ (o : Operation). o ∷ []) c.whole.ensures in
    further-then c.args.out.now c.pass_inserts.new.out c.lay.new.out c.args.op (operations_left c.args.second) (operations_left c.in_ok-second.second) (operations_left c.in_ok-rest-in-Some.rest) c.in_ok-second.ensures.on
    (subst (λ (l : List Operation). ComposesFurther c.pass_inserts.new.out l (operations_left c.in_ok-second.second) c.lay.new.out [] (operations_left c.in_ok-rest-in-Some.rest)) full c.in_ok-rest-in-Some.ensures.on)

pub returns-in_err-add-in-Some-clause-refused : goal.returns-in_err-add-in-Some-clause-refused
returns-in_err-add-in-Some-clause-refused c =
    let stays : is_delete c.args.op ≡ false = sym c.is_delete.ensures ∙ c.if-is_delete.false in
    let stands : is_insert (operation_of_part c.in-Some.next) ≡ false = sym c.is_insert.ensures ∙ c.if-is_insert.false in
    let len_is : c.len16-len.result ≡ op_len c.args.op = c.len16-len.ensures in
    let within : c.len16-len.result ≤ op_len (operation_of_part c.in-Some.next) = omega (arith, c.len16.ensures, c.if-len16-len.false) in
    let normal = subst IsNormal c.in-Some.ensures c.in_ok-second.ensures.second in
    let before = subst (λ (l : List Operation). ComposesFurther c.args.out.now [] (operations_left c.args.second) c.pass_inserts.new.out [] l) c.in-Some.ensures c.in_ok-second.ensures.on in
    let after : List Operation = operation_of_part c.in-Some.next ∷ c.in-Some.rest.now in
    let p = err_from_is_err_and c.from_residual-in_err-add-in-Some.result c.from_residual-in_err-add-in-Some.ensures.1 in
    handed_on (IsRefusedPartway c.args.out.now (c.args.op ∷ []) (operations_left c.args.second)) c.from_residual-in_err-add-in-Some.result p.0 c.in_err-add-in-Some.field-0.0 p.1 p.2
    (refused-then c.args.out.now c.pass_inserts.new.out c.args.op (operations_left c.args.second) after c.in_err-add-in-Some.field-0.0 before
    (refused-step c.pass_inserts.new.out c.pass_inserts.new.out (c.args.op ∷ []) after (option_to_list c.in_ok-changed-in-Some.field-0) (c.args.op ∷ []) after [] (left_after c.len16-len.result (operation_of_part c.in-Some.next) c.in-Some.rest.now) c.in_err-add-in-Some.field-0.0
    (not-begun c.pass_inserts.new.out (c.args.op ∷ []) after)
    (whole-step c.args.op (operation_of_part c.in-Some.next) c.in-Some.rest.now (left_after c.len16-len.result (operation_of_part c.in-Some.next) c.in-Some.rest.now) (option_to_list c.in_ok-changed-in-Some.field-0) c.len16-len.result
    c.requires.first stays stands normal len_is within refl c.in_ok-changed-in-Some.ensures.made)
    (λ bad. c.in_err-add-in-Some.ensures.bad (ap Err bad)) c.in_err-add-in-Some.ensures.only))

pub returns-in_ok-add-in-Some-clause-on : goal.returns-in_ok-add-in-Some-clause-on
returns-in_ok-add-in-Some-clause-on c =
    let stays : is_delete c.args.op ≡ false = sym c.is_delete.ensures ∙ c.if-is_delete.false in
    let stands : is_insert (operation_of_part c.in-Some.next) ≡ false = sym c.is_insert.ensures ∙ c.if-is_insert.false in
    let len_is : c.len16-len.result ≡ op_len c.args.op = c.len16-len.ensures in
    let within : c.len16-len.result ≤ op_len (operation_of_part c.in-Some.next) = omega (arith, c.len16.ensures, c.if-len16-len.false) in
    let normal = subst IsNormal c.in-Some.ensures c.in_ok-second.ensures.second in
    let before = subst (λ (l : List Operation). ComposesFurther c.args.out.now [] (operations_left c.args.second) c.pass_inserts.new.out [] l) c.in-Some.ensures c.in_ok-second.ensures.on in
    let after : List Operation = operation_of_part c.in-Some.next ∷ c.in-Some.rest.now in
    further-then c.args.out.now c.pass_inserts.new.out c.add-in-Some.new.out c.args.op (operations_left c.args.second) after (operations_left c.past.result) before
    (further-step c.pass_inserts.new.out c.pass_inserts.new.out c.add-in-Some.new.out (c.args.op ∷ []) after (option_to_list c.in_ok-changed-in-Some.field-0) (c.args.op ∷ []) after [] (operations_left c.past.result)
    (not-begun c.pass_inserts.new.out (c.args.op ∷ []) after)
    (whole-step c.args.op (operation_of_part c.in-Some.next) c.in-Some.rest.now (operations_left c.past.result) (option_to_list c.in_ok-changed-in-Some.field-0) c.len16-len.result
    c.requires.first stays stands normal len_is within c.past.ensures c.in_ok-changed-in-Some.ensures.made)
    c.in_ok-add-in-Some.ensures.added)
