use Rattle.std.proofs.Common.{◌≡◌, ℕ, List, false, refl, subst, arith}
use Rattle.std.specs.Prelude.{codes}
use Rattle.serde_json.specs.Data.{string}
use Rattle.session.specs.steps.Tokened.{Reads}
use Rattle.session.proofs.EditFields.{adds_kind}
use Rattle.session.proofs.tokened.fields.Fields.take_kind.Goals as goal

pub returns-in-edit : goal.returns-in-edit
returns-in-edit c =
    let none : c.args.self.now.edits ≡ false = grind arith in
    let same : c.in_ok-kind.kind.now ≡ codes "edit" = grind arith in
    adds_kind c.args.self.now _ c.args.reader.now c.text.new.reader none refl (subst (λ (s : List ℕ). Reads 0 c.args.reader.now (string s) c.text.new.reader) same c.in_ok-kind.ensures)
