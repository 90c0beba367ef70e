use Rattle.std.proofs.Common.{◌++◌, [], ◌∷◌}
use Rattle.std.proofs.lemmas.Result.{on_ok_weaker}
use Rattle.xform.proofs.Partly.{stands-built}
use Rattle.xform.proofs.stepping.push_made.Goals as goal

pub returns-in-Some-clause-ok : goal.returns-in-Some-clause-ok
returns-in-Some-clause-ok c =
    rw c.in-Some.is
    (on_ok_weaker c.push.result
    (stands-built (c.args.out.now ++ c.in-Some.op ∷ []) c.push.new.self)
    c.push.ensures.ok)
