use Rattle.std.proofs.Common.{sym, ◌∙◌}
use Rattle.serde_json.proofs.Views.{members_len-members_view}
use Rattle.optext.proofs.text.member_count.Goals as goal

pub returns-in-Some : goal.returns-in-Some
returns-in-Some c = rw (← c.in-Some.ensures) (c.len.ensures.len ∙ sym (members_len-members_view _))
