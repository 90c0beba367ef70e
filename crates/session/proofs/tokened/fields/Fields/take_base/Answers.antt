use Rattle.std.proofs.Common.{◌≡◌, None, refl, arith}
use Rattle.session.proofs.EditFields.{adds_base}
use Rattle.session.proofs.tokened.fields.Fields.take_base.Goals as goal

pub returns : goal.returns
returns c =
    let none : c.args.self.now.base ≡ None = grind arith in
    adds_base c.args.self.now _ c.args.reader.now c.whole.new.reader c.in_ok-base.base none refl c.in_ok-base.ensures
