use Rattle.std.proofs.Common.{sym, subst}
use Rattle.session.specs.Shelf.{Fits}
use Rattle.session.proofs.Shelved.{noted-fits}
use Rattle.session.proofs.shelf.Shelf.keep.Goals as goal

pub returns : goal.returns
returns c = λ state fits given.
    c.let_go.ensures state (noted-fits state c.self.inside.documents c.put.new.self c.put.result c.args.key c.args.document (subst (Fits state) (sym c.self.view_is) fits) given
    c.put.ensures.entries c.put.ensures.err)
