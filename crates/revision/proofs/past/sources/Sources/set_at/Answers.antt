use Rattle.std.proofs.Common.{◌<◌, ◌^◌, length, refl, ap, subst, arith}
use Rattle.attributes.specs.Map.{entries_of, insert, same_entries_map}
use Rattle.attributes.proofs.CallerLemmas.{written, ascending_as}
use Rattle.revision.specs.steps.Counting.{Keeps}
use Rattle.revision.proofs.Noted.{window-there}
use Rattle.revision.proofs.Counted.{keeps-room, keeps-set}
use Rattle.revision.proofs.past.sources.Sources.set_at.Goals as goal

pub overflow_sub-self : goal.overflow_sub-self
overflow_sub-self c =
    let list = ap entries_of c.self.view_is in
    let found = window-there c.requires.0 c.args.place c.args.self.now _ _ c.requires.1 list c.index_mut.ensures.value in
    let few : length c.self.inside.list.items < 2 ^ 64 = omega arith in
    let room = keeps-room c.self.inside.numbers 0 _ _ c.requires.0 _ c.self.invariant list found few (omega arith) in
    omega (arith, room.0, c.count.ensures.count)

pub overflow_add-self : goal.overflow_add-self
overflow_add-self c =
    let list = ap entries_of c.self.view_is in
    let found = window-there c.requires.0 c.args.place c.args.self.now _ _ c.requires.1 list c.index_mut.ensures.value in
    let few : length c.self.inside.list.items < 2 ^ 64 = omega arith in
    let room = keeps-room c.self.inside.numbers c.count-2.result _ _ c.requires.0 _ c.self.invariant list found few c.count-2.ensures.longest in
    omega (arith, room.1)

pub invariant_of-self-inside : goal.invariant_of-self-inside
invariant_of-self-inside c = (
  ascending_as (insert c.args.self.now c.requires.0 c.args.window) _
      (written c.args.self.now _ _ _ c.args.place (ap entries_of c.self.view_is) refl c.requires.1 _ _ c.index_mut.ensures.value),
  tt,
)

pub invariant_of-self : goal.invariant_of-self
invariant_of-self c =
    let list = ap entries_of c.self.view_is in
    let found = window-there c.requires.0 c.args.place c.args.self.now _ _ c.requires.1 list c.index_mut.ensures.value in
    let few : length c.self.inside.list.items < 2 ^ 64 = omega arith in
    let room = keeps-room c.self.inside.numbers 0 _ _ c.requires.0 _ c.self.invariant list found few (omega arith) in
    keeps-set c.self.inside.numbers _ c.args.self.now c.requires.0 _ c.args.window _ (subst (Keeps c.self.inside.numbers) list c.self.invariant) found
    (omega (arith, c.count-2.ensures.count, c.count-2.ensures.longest))
    (written c.args.self.now _ _ _ c.args.place list refl c.requires.1 _ _ c.index_mut.ensures.value)
    (omega (arith, room.0, c.count.ensures.count, c.count-2.ensures.count))

pub returns : goal.returns
returns c = λ source here.
    same_entries_map _ _ (written c.args.self.now _ _ _ c.args.place (ap entries_of c.self.view_is) refl here _ _ c.index_mut.ensures.value)
