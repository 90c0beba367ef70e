use Rattle.std.proofs.Common.{◌≡◌, length, set, sym, subst, arith, ◌∙◌}
use Rattle.document.specs.Chunks.{runs_of_chunks}
use Rattle.document.specs.Runs.{AreRuns}
use Rattle.document.proofs.Chunked.{one_set}
use Rattle.document.proofs.Joined.{IsWellFormed-runs}
use Rattle.document.proofs.document.Document.remake.Goals as goal

pub returns-in_ok-replace-in-Ok-clause-well_formed : goal.returns-in_ok-replace-in-Ok-clause-well_formed
returns-in_ok-replace-in-Ok-clause-well_formed c =
    let items = c.self.inside.chunks.items in
    let one : length items ≡ 1 = omega (arith, c.self.inside.chunks.ok.0, c.if-len-ne1.false) in
    let same : runs_of_chunks (set items 0 c.replace.new.self) ≡ c.in_ok-made.made =
    one_set items c.replace.new.self one ∙ (c.in_ok-replace-in-Ok.ensures.ok ∙ c.in-Ok.ensures.0) in
    IsWellFormed-runs (runs_of_chunks (set items 0 c.replace.new.self)) (subst AreRuns (sym same) c.in_ok-made.ensures.runs)
