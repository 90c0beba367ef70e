use Rattle.std.proofs.Common.{ap, sym}
use Rattle.std.specs.Fmt.{digits}
use Rattle.serde_json.proofs.OnLiterals.{serde_json_on_literals}
use Rattle.session.specs.Replies.{text_told}
use Rattle.session.specs.steps.DueText.{due_text}
use Rattle.session.proofs.Pages.{spells-as}
use Rattle.session.proofs.session.print_reply.Goals as goal

pub returns-in-Ok : goal.returns-in-Ok
returns-in-Ok g c = spells-as (ap (text_told (λ t. due_text t)) (sym c.in-Ok.is)) c.print.ensures

pub returns-in-Err : goal.returns-in-Err
unfolding serde_json_on_literals digits
returns-in-Err g c = spells-as (ap (text_told (λ t. due_text t)) (sym c.in-Err.is)) c.push.ensures
