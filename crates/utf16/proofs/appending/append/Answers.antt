use Rattle.std.proofs.Common.{◌∙◌, ◌++◌, ap, sym}
use Rattle.utf16.specs.Units.{units_of}
use Rattle.utf16.proofs.CodeUnits.{units_of-append}
use Rattle.utf16.proofs.appending.append.Goals as goal

pub returns-clause-ok : goal.returns-clause-ok
returns-clause-ok c =
    ap units_of (c.in_ok-push_str.ensures.bytes ∙ ap (λ t. t ++ c.args.more.now) (sym c.as_str.ensures.value))
    ∙ (units_of-append c.as_str.result.now c.args.more.now c.as_str.utf8 ∙ ap (λ t. units_of t ++ units_of c.args.more.now) c.as_str.ensures.value)
