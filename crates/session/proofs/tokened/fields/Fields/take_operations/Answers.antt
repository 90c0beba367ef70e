use Rattle.std.proofs.Common.{◌≡◌, None, refl, arith}
use Rattle.session.proofs.EditFields.{adds_delta}
use Rattle.session.proofs.tokened.fields.Fields.take_operations.Goals as goal

pub returns : goal.returns
returns c =
    let none : c.args.self.now.delta ≡ None = grind arith in
    adds_delta c.args.self.now _ c.args.reader.now c.delta.new.reader c.in_ok-found.found none refl c.in_ok-found.ensures
