use Rattle.std.proofs.Common.{◌≡◌, [], refl, sym, ◌∙◌}
use Rattle.std.proofs.lemmas.Bool.{eqb-true}
use Rattle.std.proofs.lemmas.List.{nil_from_length}
use Rattle.session.proofs.Pages.{front-none, front-more, front-end, spells-taken}
use Rattle.session.proofs.page.Page.push.Goals as goal

pub loop-rest-init : goal.loop-rest-init
loop-rest-init g c = front-none c.args.out.now c.args.self.now c.args.bytes.now

pub loop-rest-preserved : goal.loop-rest-preserved
loop-rest-preserved g c =
    let t = c.take-rest.ensures.taken in
    front-more t.1 (front-more refl c.loop-rest.invariant c.make_room.ensures.spelled)
    (spells-taken c.make_room.new.out c.make_room.new.self c.take-rest.new.self t.0 t.2)

pub returns : goal.returns
returns g c =
    let none : c.loop-rest.rest.now ≡ [] = nil_from_length c.loop-rest.rest.now (eqb-true _ _ (sym c.is_empty.ensures ∙ c.loop-rest-test.false)) in
    front-end none c.loop-rest.invariant
