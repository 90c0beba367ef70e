use Rattle.std.proofs.Common.{◌∙◌}
use Rattle.document.proofs.Chunked.{popped_sized, taken_back}
use Rattle.document.proofs.building.take_back.Goals as goal

pub returns-in_err-runs-clause-sized : goal.returns-in_err-runs-clause-sized
returns-in_err-runs-clause-sized c = popped_sized _ _ _ c.in-Some.ensures.items c.requires.sized

pub returns-in_err-append-clause-sized : goal.returns-in_err-append-clause-sized
returns-in_err-append-clause-sized c = popped_sized _ _ _ c.in-Some.ensures.items c.requires.sized

pub returns-clause-runs : goal.returns-clause-runs
returns-clause-runs c =
    taken_back _ _ _ c.in_ok-runs.runs.items _ _ c.in-Some.ensures.items (c.in_ok-runs.ensures.same ∙ c.runs.ensures.runs) c.in_ok-append.ensures.items

pub returns-clause-sized : goal.returns-clause-sized
returns-clause-sized c = popped_sized _ _ _ c.in-Some.ensures.items c.requires.sized
