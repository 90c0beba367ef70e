use Rattle.std.proofs.Common.{refl, sym, subst}
use Rattle.std.specs.Fn.{FnOnceReturnsAt}
use Rattle.revision.specs.Readings.{document_at}
use Rattle.session.specs.Shelf.{Fits}
use Rattle.session.proofs.Shelved.{kept-due, shown_due}
use Rattle.session.proofs.shelf.Shelf.show.Goals as goal

pub returns-in-Some-clause-shown : goal.returns-in-Some-clause-shown
returns-in-Some-clause-shown g c = λ fits.
    let state = c.args.state.now in
    let kept = c.in-Some.document.now in
    shown_due (λ units answer. FnOnceReturnsAt g.F.FnOnce c.args.show units answer.0) (document_at state c.args.name.now c.args.revision) kept _
    (kept-due state c.args.name.now c.args.revision _ (sym c.in_ok-found.ensures.past) c.self.inside.documents.entries c.in-Ok.key kept
    (subst (Fits state) (sym c.self.view_is) fits) c.in-Ok.ensures.name c.in-Ok.ensures.revision c.in-Some.ensures)
    (c.in-Some.document, c.show-shown.ensures, refl)
