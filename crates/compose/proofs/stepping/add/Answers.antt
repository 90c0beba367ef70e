use Rattle.std.proofs.Common.{◌++◌, [], ◌∷◌, ap, sym, ◌∙◌}
use Rattle.delta.specs.Gaps.{counted}
use Rattle.delta.specs.Normal.{settled}
use Rattle.std.specs.Option.{option_to_list}
use Rattle.compose.proofs.Outcomes.{on_ok}
use Rattle.compose.proofs.PartsComposed.{settled-built}
use Rattle.compose.proofs.stepping.add.Goals as goal

pub returns-in-Some-clause-added : goal.returns-in-Some-clause-added
returns-in-Some-clause-added c =
    on_ok c.push.result
    (λ is.
    ap (λ l. settled (counted l)) is
    ∙ (settled-built (c.args.out.now ++ c.in-Some.op ∷ []) ∙ ap (λ m. settled (counted (c.args.out.now ++ option_to_list m))) (sym c.in-Some.is)))
    c.push.ensures.ok
