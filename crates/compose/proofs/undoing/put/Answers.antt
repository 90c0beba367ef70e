use Rattle.std.proofs.Common.{[], ◌∷◌, ◌++◌, ap, ◌∙◌, arith}
use Rattle.delta.specs.Operation.{base_of, out_of, IsBounded}
use Rattle.delta.specs.Gaps.{counted}
use Rattle.delta.specs.Normal.{settled}
use Rattle.delta.proofs.CallerLemmas.{lengths-built, base_of-append, out_of-append}
use Rattle.compose.proofs.Outcomes.{only_memory}
use Rattle.compose.proofs.PartsComposed.{settled-built}
use Rattle.compose.proofs.undoing.put.Goals as goal

pub returns-in-Ok-clause-added : goal.returns-in-Ok-clause-added
returns-in-Ok-clause-added c = ap (λ l. settled (counted l)) c.in-Ok.ensures.ok ∙ settled-built (c.args.made.now ++ c.args.op ∷ [])

pub returns-in-Ok-clause-base : goal.returns-in-Ok-clause-base
returns-in-Ok-clause-base c =
    omega (arith, ap base_of c.in-Ok.ensures.ok, (lengths-built (c.args.made.now ++ c.args.op ∷ [])).0, base_of-append c.args.made.now (c.args.op ∷ []))

pub returns-in-Ok-clause-out : goal.returns-in-Ok-clause-out
returns-in-Ok-clause-out c =
    omega (arith, ap out_of c.in-Ok.ensures.ok, (lengths-built (c.args.made.now ++ c.args.op ∷ [])).1, out_of-append c.args.made.now (c.args.op ∷ []))

pub as_alloc_error-requires : goal.as_alloc_error-requires
as_alloc_error-requires c =
    let bounded : IsBounded (c.args.made.now ++ c.args.op ∷ []) = record {
      base = omega (arith, base_of-append c.args.made.now (c.args.op ∷ []), c.requires.base);
      out = omega (arith, out_of-append c.args.made.now (c.args.op ∷ []), c.requires.out);
    } in
    only_memory c.in-Err.refusal (IsBounded (c.args.made.now ++ c.args.op ∷ [])) bounded c.in-Err.ensures.bad c.in-Err.ensures.only
