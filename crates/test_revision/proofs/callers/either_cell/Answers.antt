use Rattle.std.proofs.Common.{sym, ◌∙◌}
use Rattle.test_revision.proofs.callers.either_cell.Goals as goal

pub returns : goal.returns
returns c order cells entries state one other a b runs found_one found_other =
    let runs_one = c.recovers.ensures.again order cells entries state a one runs found_one in
    let runs_other = c.recovers.ensures.again order cells entries state b other runs found_other in
    c.showing_agree.ensures order one other (found_one.same_limits ∙ sym found_other.same_limits) runs_one.shows runs_other.shows
