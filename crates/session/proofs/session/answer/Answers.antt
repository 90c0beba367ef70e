use Rattle.session.specs.Shelf.{IsGiven}
use Rattle.session.proofs.Shelved.{look_made}
use Rattle.session.proofs.session.answer.Goals as goal

pub returns-in-Some-clause-fits : goal.returns-in-Some-clause-fits
returns-in-Some-clause-fits g c =
    let now = g.D.Desk.reached c.view.new.desk in
    c.note.ensures now c.in-Ok.ensures.fits (look_made (IsGiven now) c.in-Some.look (c.in-Ok.ensures.look c.in-Some.look c.in-Some.is))
