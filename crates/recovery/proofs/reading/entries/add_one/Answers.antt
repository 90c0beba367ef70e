use Rattle.std.proofs.Common.{◌≡◌, ◌∙◌, List, [], ◌∷◌, ◌++◌, get_or, set, Vec, sym, ap, arith}
use Rattle.std.specs.declared.alloc.Global.{Global}
use Rattle.std.proofs.lemmas.List.{map-set, get_or-map}
use Rattle.revision.specs.Command.{Taken}
use Rattle.recovery.specs.steps.Reading.{lists_of}
use Rattle.recovery.proofs.reading.entries.add_one.Goals as goal

abbrev commands_in : Vec Taken Global → List Taken
commands_in v = v.items

pub returns-clause-added : goal.returns-clause-added
returns-clause-added c =
    let lists = c.args.lists.now in
    let own = c.index-lists-number.result in
    let there : get_or (lists_of lists) c.document_number-number.result [] ≡ (get_or lists c.document_number-number.result own).items =
    get_or-map commands_in lists c.document_number-number.result own [] (omega (arith, c.if-number-lists.false)) in
    map-set commands_in lists c.document_number-number.result c.push.new.self
    ∙ (ap (λ (l : List Taken). set (lists_of lists) c.document_number-number.result l) (c.in_ok-push.ensures.items ∙ ap (λ (l : List Taken). l ++ c.args.taken ∷ []) (sym there))
    ∙ ap (λ n. set (lists_of lists) n (get_or (lists_of lists) n [] ++ c.args.taken ∷ [])) c.document_number-number.ensures)
