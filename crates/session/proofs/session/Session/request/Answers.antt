use Rattle.std.proofs.Common.{IfSome, subst}
use Rattle.optext.specs.Answer.{IsAnswer}
use Rattle.session.specs.Request.{request_of}
use Rattle.session.specs.Session.{Session}
use Rattle.session.proofs.Replying.{line_due}
use Rattle.session.proofs.session.Session.request.Goals as goal

pub returns-clause-due : goal.returns-clause-due
returns-clause-due c =
    subst (λ (s : Session). IfSome s.line (λ line. IsAnswer (request_of s.peer.source line) c.read.result)) c.self.view_is
    (line_due c.self.inside.line c.self.inside.source _ c.bytes.result.now c.read.result c.bytes.ensures c.as_ref-source.ensures.value c.read.ensures.due)
