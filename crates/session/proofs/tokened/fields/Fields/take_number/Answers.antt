use Rattle.std.proofs.Common.{◌≡◌, None, refl, arith}
use Rattle.session.proofs.EditFields.{adds_number}
use Rattle.session.proofs.tokened.fields.Fields.take_number.Goals as goal

pub returns : goal.returns
returns c =
    let none : c.args.self.now.number ≡ None = grind arith in
    adds_number c.args.self.now _ c.args.reader.now c.whole.new.reader c.in_ok-number.number none refl c.in_ok-number.ensures
