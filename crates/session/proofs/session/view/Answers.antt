use Rattle.std.proofs.Common.{◌≡◌, IfOk, sym, subst}
use Rattle.session.specs.steps.DueText.{due_text}
use Rattle.revision.specs.State.{State}
use Rattle.session.specs.Reads.{read_line}
use Rattle.session.specs.Shelf.{Fits, IsGivenLook}
use Rattle.session.proofs.Shelved.{read_weaker, read_made}
use Rattle.session.proofs.Later.{fits_later}
use Rattle.session.proofs.session.view.Goals as goal

pub returns-clause-told : goal.returns-clause-told
returns-clause-told g c =
    let shown = c.view.ensures.shown in
    let now = g.D.Desk.reached c.view.new.self in
    let fits = fits_later (g.D.Desk.reached c.args.desk.now) now c.args.shelf.now c.view.ensures.later c.requires.fits in (
      shown.0,
      shown.1,
      read_weaker _ _ shown.0 c.view.result now shown.2 shown.3 (λ answer gave.
          subst (λ (s : State). IfOk answer.reply (λ due. due_text due ≡ read_line c.args.name.now c.args.question s)) gave.2
          (gave.1.0 (subst (λ (s : State). Fits s c.args.shelf.now) (sym gave.2) fits))),
    )

pub returns-clause-fits : goal.returns-clause-fits
returns-clause-fits g c = fits_later (g.D.Desk.reached c.args.desk.now) (g.D.Desk.reached c.view.new.self) c.args.shelf.now c.view.ensures.later c.requires.fits

pub returns-clause-look : goal.returns-clause-look
returns-clause-look g c =
    let shown = c.view.ensures.shown in
    let now = g.D.Desk.reached c.view.new.self in
    read_made _ (λ told. IsGivenLook now told.look) shown.0 c.view.result now shown.2 shown.3
    (λ answer gave. subst (λ (s : State). IsGivenLook s answer.look) gave.2 gave.1.1)
