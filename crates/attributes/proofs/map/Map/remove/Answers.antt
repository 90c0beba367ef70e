use Rattle.std.proofs.Common.{sym, ap, ◌∙◌}
use Rattle.std.specs.List.{remove as list_remove}
use Rattle.attributes.specs.Map.{entries_of, remove, same_entries_map}
use Rattle.attributes.proofs.Places.{remove-here, entries-remove, remove-absent, ascending_as}
use Rattle.attributes.proofs.map.Map.remove.Goals as goal

pub invariant_of-self-inside : goal.invariant_of-self-inside
invariant_of-self-inside g c =
    let list = ap entries_of c.self.view_is in
    let same = c.remove.ensures.items ∙ (ap (λ l. list_remove l c.in-Ok.i) list ∙ (remove-here c.in-Ok.ensures ∙ sym (entries-remove c.args.self.now c.args.name.now))) in
    (ascending_as (remove c.args.self.now c.args.name.now) _ same, tt)

pub returns-in-Ok : goal.returns-in-Ok
returns-in-Ok g c =
    let list = ap entries_of c.self.view_is in
    same_entries_map _ _
    (c.remove.ensures.items ∙ (ap (λ l. list_remove l c.in-Ok.i) list ∙ (remove-here c.in-Ok.ensures ∙ sym (entries-remove c.args.self.now c.args.name.now))))

pub returns-in_default : goal.returns-in_default
returns-in_default g c = remove-absent c.args.self.now c.args.name.now c.in_default.field-0 c.in_default.ensures
