use Rattle.std.proofs.Common.{◌≡◌, [], length, sym, ap, ◌∙◌}
use Rattle.std.proofs.lemmas.Bool.{eqb-true, eqb-false}
use Rattle.std.proofs.lemmas.List.{nil_from_length}
use Rattle.serde_json.specs.Data.{object}
use Rattle.serde_json.specs.Written.{compact_text}
use Rattle.optext.specs.Printed.{printed_entries, printed_change}
use Rattle.session.proofs.Pages.{spells-as, spells-both}
use Rattle.session.proofs.OperationTexts.{opening-none, opening-some}
use Rattle.session.proofs.printing.push_opening_of_change.Goals as goal

pub returns-then-is_empty : goal.returns-then-is_empty
returns-then-is_empty g c =
    let none : c.entries-entries.result.now ≡ [] = nil_from_length c.entries-entries.result.now (eqb-true _ _ (sym c.is_empty.ensures ∙ c.if-is_empty.true)) in
    spells-as (opening-none printed_change c.args.change.now.entries (sym c.entries-entries.ensures ∙ none)) c.push_str.ensures

pub returns : goal.returns
returns g c =
    let entries : c.entries-entries.result.now ≡ c.args.change.now.entries = c.entries-entries.ensures in
    let some : c.args.change.now.entries ≡ [] → ⊥ = λ none. eqb-false _ _ (sym c.is_empty.ensures ∙ c.if-is_empty.false) (ap length (entries ∙ none)) in
    spells-as (opening-some printed_change c.args.change.now.entries some)
    (spells-both c.push_str-2.ensures (spells-both (spells-as (ap (λ es. compact_text (object (printed_entries printed_change es))) entries) c.push_changes.ensures) c.push_str-3.ensures))
