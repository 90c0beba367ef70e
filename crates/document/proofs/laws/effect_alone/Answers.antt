use Rattle.std.proofs.Common.{sym, ap, ◌∙◌}
use Rattle.delta.proofs.CallerLemmas.{apply-nf}
use Rattle.delta.specs.Gaps.{apply, counted}
use Rattle.document.proofs.laws.effect_alone.Goals as goal

pub returns : goal.returns
returns c = λ d g h same. sym (apply-nf d g) ∙ (ap (λ ops. apply d (counted ops)) same ∙ apply-nf d h)
