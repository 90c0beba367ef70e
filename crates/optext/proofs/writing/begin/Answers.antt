use Rattle.std.proofs.Common.{◌∙◌}
use Rattle.serde_json.proofs.Views.{view-Object}
use Rattle.optext.proofs.Members.{begun-some}
use Rattle.optext.proofs.writing.begin.Goals as goal

pub returns : goal.returns
returns c = record {
  begun =
      c.in_ok-put.ensures.ok
      ∙ rw (view-Object c.args.attributes, c.new-members.ensures.empty)
      (begun-some c.args.attributes.entries (λ none. absurd (cc (c.is_empty.ensures.1 none, c.if-is_empty.false))));
}
