use Rattle.std.proofs.Common.{◌≡◌, List, take, sym, ap, subst, ◌∙◌}
use Rattle.std.proofs.lemmas.Result.{IfOk-weaker}
use Rattle.delta.specs.Operation.{Operation}
use Rattle.revision.specs.Late.{late, HasRoom}
use Rattle.revision.specs.Moved.{MovedEdit}
use Rattle.revision.proofs.MovedOn.{room_rest, past_rest}
use Rattle.revision.proofs.past.moved.MovedEdit.past.Goals as goal

-- what is so of the edit that is seen is so of what it has inside
same : (inside now : MovedEdit) (since : List (List Operation)) → inside ≡ now → now.delta ≡ late now.edit (take now.count since)
    → inside.delta ≡ late inside.edit (take inside.count since)
same inside now since is moved = subst (λ (m : MovedEdit). m.delta ≡ late m.edit (take m.count since)) (sym is) moved

pub past_all-requires : goal.past_all-requires
past_all-requires c =
    let now = c.args.self.now in
    let since = c.args.since.now in
    let moved = same _ now since c.self.view_is c.requires.moved in
    room_rest c.self.inside.count c.self.inside.edit c.in_ok-copy.field-0 since
    (subst (λ (m : MovedEdit). HasRoom m.edit since) (sym c.self.view_is) c.requires.room)
    (c.in_ok-copy.ensures.same ∙ moved)

pub returns : goal.returns
returns c = record {
  late =
      let since = c.args.since.now in
      let moved = c.in_ok-copy.ensures.same ∙ same _ c.args.self.now since c.self.view_is c.requires.moved in
      let rest = past_rest c.self.inside.count c.self.inside.edit c.in_ok-copy.field-0 since moved ∙ ap (λ (m : MovedEdit). late m.edit since) c.self.view_is in
      IfOk-weaker c.past_all.result _ _ (λ made is. is ∙ rest) c.past_all.ensures.late;
}
