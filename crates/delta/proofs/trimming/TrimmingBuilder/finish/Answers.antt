use Rattle.std.proofs.Common.{◌∙◌}
use Rattle.delta.proofs.Trimmed.{nf-plain}
use Rattle.delta.proofs.trimming.TrimmingBuilder.finish.Goals as goal

pub returns-clause-delta : goal.returns-clause-delta
returns-clause-delta c = c.finish-delta.ensures ∙ nf-plain c.self.inside.builder c.args.self c.self.inside.plain c.self.view_is
