use Rattle.std.proofs.Common.{◌≡◌, ◌∙◌, true, cond, sym, ap, List, ℕ, rules}
use Rattle.std.specs.Prelude.{codes}
use Rattle.std.specs.String.{string_bytes}
use Rattle.delta.specs.Element.{Element}
use Rattle.delta.specs.Operation.{Operation}
use Rattle.delta.specs.Gaps.{End}
use Rattle.delta.specs.Normal.{nf}
use Rattle.algebra.specs.Text.{text_of}
use Rattle.revision.specs.State.{units_of, is_live}
use Rattle.revision.specs.Pending.{record_of}
use Rattle.server.proofs.documents.content_text.Goals as goal

pub returns : goal.returns
returns c = record {
  ok =
      let document = record_of c.args.document.now in
      let live : is_live document ≡ true = search rules in
      let delta : c.in_ok-delta.delta ≡ nf (End (units_of document)) =
      c.in_ok-delta.ensures.delta ∙ ap (λ (units : List Element). nf (End units)) c.document.ensures in
      let printed : string_bytes c.in_ok-content.content ≡ text_of c.in_ok-delta.delta = search rules in
      printed ∙ ap (λ (ops : List Operation). text_of ops) delta ∙ sym (ap (λ b. cond {A = List ℕ} b (text_of (nf (End (units_of document)))) (codes "deleted")) live);
}
