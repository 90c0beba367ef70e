use Rattle.std.proofs.Common.{◌≡◌, ◌+◌, ◌<◌, ◌∙◌, ℕ, List, length, get_or, subst}
use Rattle.std.proofs.lemmas.List.Elements.{All-more}
use Rattle.attributes.specs.Scalar.{Scalar}
use Rattle.optext.specs.Laws.{IsAttribute}
use Rattle.optext.specs.Printed.{printed_scalar}
use Rattle.optext.proofs.Members.{printed-more}
use Rattle.optext.proofs.writing.write_attributes.Goals as goal

pub loop-name-preserved : goal.loop-name-preserved
loop-name-preserved c =
    let entries : List (List ℕ × Scalar) = c.args.attrs.now.entries in
    let read : (c.loop-name.name-index < length entries) × (c.loop-name-item.result ≡ get_or entries c.loop-name.name-index c.loop-name-item.result) =
    subst (λ es. (c.loop-name.name-index < length es) × (c.loop-name-item.result ≡ get_or es c.loop-name.name-index c.loop-name-item.result)) c.entries-name-items.ensures (c.loop-name-test.true, c.loop-name-item.is) in
    record {
      printed =
          c.in_ok-put.ensures.ok
          ∙ printed-more printed_scalar entries c.loop-name.name-index c.loop-name-item.result (c.first_entries_ascend.ensures.of_attributes c.args.attrs.now (c.loop-name.name-index + 1)) read.0 read.1 _ _ _ c.as_str.ensures.text c.in_ok-value.ensures.printed c.loop-name.invariant.printed;
      kept =
          All-more IsAttribute c.args.attrs.now.entries c.loop-name.name-index c.loop-name-item.result read.0 c.loop-name.invariant.kept
          (subst IsAttribute read.1 (c.as_str.ensures.kept, c.in_ok-value.ensures.kept));
    }
