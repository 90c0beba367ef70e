use Rattle.std.proofs.Common.{◌≡◌, ◌<◌, ◌^◌, length, sym, ap, subst, ◌∙◌, arith}
use Rattle.std.specs.List.{remove as list_remove}
use Rattle.attributes.specs.Map.{entries_of, remove, same_entries_map}
use Rattle.attributes.proofs.CallerLemmas.{remove-here, entries-remove, remove-absent, ascending_as}
use Rattle.revision.specs.Window.{Window}
use Rattle.revision.specs.steps.Counting.{Keeps}
use Rattle.revision.proofs.Noted.{window-there}
use Rattle.revision.proofs.Counted.{keeps-room, keeps-dropped}
use Rattle.revision.proofs.past.sources.Sources.remove.Goals as goal

pub invariant_of-self-inside : goal.invariant_of-self-inside
invariant_of-self-inside c =
    let same = c.remove-window.ensures.items ∙ (ap (λ l. list_remove l c.in-Ok.i) (ap entries_of c.self.view_is)
    ∙ (remove-here c.in-Ok.ensures ∙ sym (entries-remove c.args.self.now _))) in
    (ascending_as (remove c.args.self.now _) _ same, tt)

pub returns-in-Ok : goal.returns-in-Ok
returns-in-Ok c =
    same_entries_map _ _
    (c.remove-window.ensures.items ∙ (ap (λ l. list_remove l c.in-Ok.i) (ap entries_of c.self.view_is)
    ∙ (remove-here c.in-Ok.ensures ∙ (sym (entries-remove c.args.self.now _) ∙ ap (λ n. (remove c.args.self.now n).entries) c.as_str.ensures.text))))

pub returns-in_default : goal.returns-in_default
returns-in_default c = remove-absent c.args.self.now _ c.in_default.field-0 c.in_default.ensures ∙ ap (remove c.args.self.now) c.as_str.ensures.text

pub overflow_sub-self : goal.overflow_sub-self
overflow_sub-self c =
    let list = ap entries_of c.self.view_is in
    let found = window-there _ c.in-Ok.i c.args.self.now _ _ c.in-Ok.ensures list c.remove-window.ensures.value in
    let few : length c.self.inside.list.items < 2 ^ 64 = omega arith in
    let room = keeps-room c.self.inside.numbers 0 _ _ _ _ c.self.invariant list found few (omega arith) in
    omega (arith, room.0, c.count.ensures.count)

pub invariant_of-self : goal.invariant_of-self
invariant_of-self c =
    let list = ap entries_of c.self.view_is in
    let found = window-there _ c.in-Ok.i c.args.self.now _ _ c.in-Ok.ensures list c.remove-window.ensures.value in
    let few : length c.self.inside.list.items < 2 ^ 64 = omega arith in
    let room = keeps-room c.self.inside.numbers 0 _ _ _ _ c.self.invariant list found few (omega arith) in
    let entry : c.in-Ok.ensures.entry.1 ≡ c.remove-window.result.1 = cc (c.in-Ok.ensures.found, found) in
    let same = c.remove-window.ensures.items ∙ (ap (λ l. list_remove l c.in-Ok.i) list ∙ (remove-here c.in-Ok.ensures ∙ sym (entries-remove c.args.self.now _))) in
    keeps-dropped c.self.inside.numbers _ c.args.self.now _ c.in-Ok.i _ (subst (Keeps c.self.inside.numbers) list c.self.invariant) c.in-Ok.ensures same
    (omega (arith, room.0, c.count.ensures.count, ap (λ (w : Window). length w.revisions) entry))
