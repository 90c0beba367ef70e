use Rattle.std.proofs.Common.{length, sym, ap, ◌∙◌}
use Rattle.std.proofs.lemmas.Bool.{eqb-true, eq-eqb}
use Rattle.std.proofs.lemmas.List.{nil_from_length}
use Rattle.attributes.specs.Map.{entries_of, same_entries_map}
use Rattle.attributes.proofs.change.Change.is_empty.Goals as goal

pub returns : goal.returns
returns c = (
  λ empty_list. same_entries_map _ _ (sym c.entries.ensures ∙ nil_from_length _ (eqb-true _ _ (sym c.is_empty.ensures ∙ empty_list))),
  λ none. c.is_empty.ensures ∙ eq-eqb _ _ (ap length (c.entries.ensures ∙ ap entries_of none)),
)
