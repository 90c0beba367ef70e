use Rattle.session.specs.steps.DueText.{due_text}
use Rattle.session.proofs.Later.{fits_later}
use Rattle.session.proofs.Replying.{due_of, greeted, not_taken, was_read, followed, left, refused_any}
use Rattle.session.proofs.session.Session.respond.Goals as goal

pub returns-in-Ok-Greet-clause-replied : goal.returns-in-Ok-Greet-clause-replied
returns-in-Ok-Greet-clause-replied g c =
    let session = c.args.self.now in
    let greets = c.greet.ensures in
    greeted g.D.Desk.does (λ t. due_text t) session.line session c.greet.new.self c.in-Ok-Greet.source c.greet.result c.args.desk.now
    c.in-Ok-Greet.field-0 c.in-Ok-Greet.field-0-is (due_of session.line session.peer.source _ _ c.in-Ok-Greet.is c.requires.due) greets.greeted greets.presented greets.unchanged

pub returns-in-Ok-Ask-clause-replied : goal.returns-in-Ok-Ask-clause-replied
returns-in-Ok-Ask-clause-replied g c =
    let session = c.args.self.now in
    not_taken g.D.Desk.does (λ t. due_text t) session.line session c.refusal_reply.result c.args.desk.now c.refusal_reply.ensures

pub returns-in-Err-clause-replied : goal.returns-in-Err-clause-replied
returns-in-Err-clause-replied g c =
    let session = c.args.self.now in
    refused_any g.D.Desk.does (λ t. due_text t) session.line session c.in-Err.refusal c.refusal_reply-in-Err.result c.args.desk.now
    (due_of session.line session.peer.source _ _ c.in-Err.is c.requires.due) c.refusal_reply-in-Err.ensures

pub returns-in-Ok-Read-clause-replied : goal.returns-in-Ok-Read-clause-replied
returns-in-Ok-Read-clause-replied g c =
    let session = c.args.self.now in
    was_read g.D.Desk.does session.line session c.in-Ok-Read.name c.in-Ok-Read.question _ c.args.desk.now c.answer.new.desk
    c.in-Ok-Read.field-0 c.in-Ok-Read.field-0-is (due_of session.line session.peer.source _ _ c.in-Ok-Read.is c.requires.due) c.answer.ensures.told

pub returns-in-Ok-Subscribe-clause-replied : goal.returns-in-Ok-Subscribe-clause-replied
returns-in-Ok-Subscribe-clause-replied g c =
    let session = c.args.self.now in
    followed g.D.Desk.does (λ t. due_text t) session.line session c.subscribe.new.self c.in-Ok-Subscribe.name c.in-Ok-Subscribe.rev c.subscribe.result
    c.args.desk.now c.subscribe.new.desk c.in-Ok-Subscribe.field-0 c.in-Ok-Subscribe.field-0-is
    (due_of session.line session.peer.source _ _ c.in-Ok-Subscribe.is c.requires.due) c.subscribe.ensures.followed

pub returns-in-Ok-Unsubscribe-clause-replied : goal.returns-in-Ok-Unsubscribe-clause-replied
returns-in-Ok-Unsubscribe-clause-replied g c =
    let session = c.args.self.now in
    let done = c.unsubscribe.ensures in
    left g.D.Desk.does (λ t. due_text t) session.line session c.unsubscribe.new.self c.in-Ok-Unsubscribe.name c.unsubscribe.result c.args.desk.now
    c.in-Ok-Unsubscribe.field-0 c.in-Ok-Unsubscribe.field-0-is (due_of session.line session.peer.source _ _ c.in-Ok-Unsubscribe.is c.requires.due) done.told done.left done.unchanged

pub returns-in-Ok-Subscribe-clause-fits : goal.returns-in-Ok-Subscribe-clause-fits
returns-in-Ok-Subscribe-clause-fits g c =
    fits_later (g.D.Desk.reached c.args.desk.now) (g.D.Desk.reached c.subscribe.new.desk) c.args.shelf.now c.subscribe.ensures.later c.requires.fits
