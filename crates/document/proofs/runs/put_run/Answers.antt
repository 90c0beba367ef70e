use Rattle.std.proofs.Common.{ap, ◌∙◌}
use Rattle.document.specs.Runs.{last_attributes, text_attributes}
use Rattle.document.proofs.Ended.{units_more, AreRuns-one_more, last_attributes-last, on_true, on_false}
use Rattle.document.proofs.runs.put_run.Goals as goal

pub returns-then-branch-clause-ok : goal.returns-then-branch-clause-ok
returns-then-branch-clause-ok c = (on_true _ _ _ c.if-branch.true c.in_ok-merge_run.ensures.ok).0

pub returns-then-branch-clause-kept : goal.returns-then-branch-clause-kept
returns-then-branch-clause-kept c = (on_true _ _ _ c.if-branch.true c.in_ok-merge_run.ensures.ok).1

pub returns-clause-ok : goal.returns-clause-ok
returns-clause-ok c =
    let missed = on_false _ _ _ c.if-branch.false c.in_ok-merge_run.ensures.ok in
    units_more c.args.runs.now _ _ _ (rw missed.1 at c.in_ok-push.ensures.ok) c.in_ok-share.ensures.same

pub returns-clause-kept : goal.returns-clause-kept
returns-clause-kept c =
    let missed = on_false _ _ _ c.if-branch.false c.in_ok-merge_run.ensures.ok in
    AreRuns-one_more c.args.runs.now _ _ _ (rw missed.1 at c.in_ok-push.ensures.ok) c.in_ok-share.ensures.same c.requires.kept c.requires.run missed.0

pub returns-then-branch-clause-last : goal.returns-then-branch-clause-last
returns-then-branch-clause-last c = (on_true _ _ _ c.if-branch.true c.in_ok-merge_run.ensures.ok).2

pub returns-clause-last : goal.returns-clause-last
returns-clause-last c =
    ap last_attributes c.in_ok-push.ensures.ok ∙ (last_attributes-last c.merge_run.new.runs c.in_ok-share.field-0 ∙ ap text_attributes c.in_ok-share.ensures.same)
