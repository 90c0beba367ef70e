use Rattle.std.proofs.Common.{◌≡◌, None, refl, arith}
use Rattle.session.proofs.EditFields.{adds_doc}
use Rattle.session.proofs.tokened.fields.Fields.take_doc.Goals as goal

pub returns : goal.returns
returns c =
    let none : c.args.self.now.doc ≡ None = grind arith in
    adds_doc c.args.self.now _ c.args.reader.now c.text.new.reader c.in_ok-doc.doc none refl c.in_ok-doc.ensures
