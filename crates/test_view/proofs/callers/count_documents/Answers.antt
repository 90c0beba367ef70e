use Rattle.test_view.proofs.Reading.{read_keeps}
use Rattle.test_view.proofs.callers.count_documents.Goals as goal

pub returns-clause-kept : goal.returns-clause-kept
returns-clause-kept g c =
    read_keeps g.L.Life.start c.args.viewer.now c.learn.new.self c.read.new.self c.read.result c.read.ensures.lent.seen c.read.ensures.unchanged c.learn.ensures.this

pub returns-clause-told : goal.returns-clause-told
returns-clause-told g c =
    read_keeps g.L.Life.start c.args.told.now c.learn.new.self c.read.new.self c.read.result c.read.ensures.lent.seen c.read.ensures.unchanged c.learn.ensures.that
