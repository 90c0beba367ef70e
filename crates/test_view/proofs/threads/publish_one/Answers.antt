use Rattle.test_view.proofs.Publishing.{published_kept}
use Rattle.test_view.proofs.threads.publish_one.Goals as goal

pub returns-clause-kept : goal.returns-clause-kept
returns-clause-kept g c =
    published_kept _ _ _ _ c.in-Ok-Some.field-0-is c.in-Ok-Some.ensures.batch c.in-Ok-Some.ensures.told c.in-Ok-Some.ensures.shown _ _ c.give.ensures.kept
