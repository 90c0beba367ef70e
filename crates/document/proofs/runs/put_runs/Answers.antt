use Rattle.std.proofs.Common.{ap, sym, subst, ◌∙◌}
use Rattle.document.specs.Runs.{IsApart, last_attributes}
use Rattle.document.proofs.Chunked.{extended, extended_after, first_is, first_read, last_attributes-append}
use Rattle.document.proofs.runs.put_runs.Goals as goal

pub returns-then-is_apart-clause-ok : goal.returns-then-is_apart-clause-ok
returns-then-is_apart-clause-ok c =
    (extended _ _ _ c.in_ok-extend.ensures.ok c.requires.kept c.requires.more
    (subst (IsApart (last_attributes c.args.runs.now)) (sym (first_is c.args.more.now c.index-more-0.result c.requires.some c.index-more-0.is)) (c.is_apart.ensures c.if-is_apart.true))).0

pub returns-then-is_apart-clause-kept : goal.returns-then-is_apart-clause-kept
returns-then-is_apart-clause-kept c =
    (extended _ _ _ c.in_ok-extend.ensures.ok c.requires.kept c.requires.more
    (subst (IsApart (last_attributes c.args.runs.now)) (sym (first_is c.args.more.now c.index-more-0.result c.requires.some c.index-more-0.is)) (c.is_apart.ensures c.if-is_apart.true))).1

pub returns-then-is_apart-clause-last : goal.returns-then-is_apart-clause-last
returns-then-is_apart-clause-last c =
    ap last_attributes c.in_ok-extend.ensures.ok ∙ last_attributes-append c.args.runs.now c.args.more.now c.requires.some

pub returns-clause-ok : goal.returns-clause-ok
returns-clause-ok c =
    (extended_after c.args.runs.now c.put_run.new.runs _ _ c.args.more.now c.index-more-0.result (first_read c.args.more.now c.index-more-0.result c.requires.some c.index-more-0.is)
    c.in_ok-put_run.ensures.ok c.in_ok-put_run.ensures.kept c.in_ok-put_run.ensures.last c.requires.more c.in_ok-extend-2.ensures.ok).0

pub returns-clause-kept : goal.returns-clause-kept
returns-clause-kept c =
    (extended_after c.args.runs.now c.put_run.new.runs _ _ c.args.more.now c.index-more-0.result (first_read c.args.more.now c.index-more-0.result c.requires.some c.index-more-0.is)
    c.in_ok-put_run.ensures.ok c.in_ok-put_run.ensures.kept c.in_ok-put_run.ensures.last c.requires.more c.in_ok-extend-2.ensures.ok).1

pub returns-clause-last : goal.returns-clause-last
returns-clause-last c =
    (extended_after c.args.runs.now c.put_run.new.runs _ _ c.args.more.now c.index-more-0.result (first_read c.args.more.now c.index-more-0.result c.requires.some c.index-more-0.is)
    c.in_ok-put_run.ensures.ok c.in_ok-put_run.ensures.kept c.in_ok-put_run.ensures.last c.requires.more c.in_ok-extend-2.ensures.ok).2
