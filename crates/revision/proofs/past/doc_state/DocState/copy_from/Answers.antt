use Rattle.std.proofs.Common.{◌≡◌, [], None, refl, sym, ap, subst, ◌∙◌}
use Rattle.revision.specs.Floors.{raised}
use Rattle.revision.specs.Past.{Prepared}
use Rattle.revision.specs.Pending.{ComesOf}
use Rattle.revision.specs.Sources.{Table}
use Rattle.revision.proofs.Raising.{raised-units, raised-sources}
use Rattle.revision.proofs.past.doc_state.DocState.copy_from.Goals as goal

pub invariant_of-result : goal.invariant_of-result
invariant_of-result c =
    let past = c.self.inside.past.past in
    let past_is : c.raise_floor.new.self ≡ record { past = raised c.args.revision past; next = [] } =
    c.raise_floor.ensures ∙ ap (λ (p : Prepared). record p { past = raised c.args.revision p.past }) c.in_ok-past.ensures.same in
    let held : c.in_ok-sources.sources.accepted ≡ c.self.inside.sources.accepted = ap (λ (t : Table). t.accepted) c.in_ok-sources.ensures.ok ∙ c.accepted.ensures in
    let prepared : c.in_ok-sources.sources.prepared ≡ c.self.inside.sources.accepted = ap (λ (t : Table). t.prepared) c.in_ok-sources.ensures.ok ∙ c.accepted.ensures in
    subst (λ (p : Prepared). ComesOf p c.in_ok-document.document None c.in_ok-sources.sources) (sym past_is) (record {
      newest = c.in_ok-document.ensures.same ∙ (c.self.invariant.newest ∙ sym (raised-units c.args.revision past));
      after = refl;
      held = held ∙ (c.self.invariant.held ∙ sym (raised-sources c.args.revision past));
      prepared = prepared ∙ (c.self.invariant.held ∙ sym (raised-sources c.args.revision past));
    })
