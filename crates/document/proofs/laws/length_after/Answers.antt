use Rattle.std.proofs.Common.{◌≤◌, length, subst}
use Rattle.delta.proofs.CallerLemmas.{units_below-counted, length-apply_counted}
use Rattle.document.proofs.laws.length_after.Goals as goal

pub returns : goal.returns
returns c =
    λ d ops defined. length-apply_counted d ops (subst (λ n. n ≤ length d) (units_below-counted ops) defined)
