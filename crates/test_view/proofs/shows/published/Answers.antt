use Rattle.test_view.proofs.Publishing.{published_told}
use Rattle.test_view.proofs.shows.published.Goals as goal

pub returns-clause-told : goal.returns-clause-told
returns-clause-told g c =
    published_told _ _ _ _ c.in-Ok-Some.field-0-is c.in-Ok-Some.ensures.batch c.in-Ok-Some.ensures.told c.in-Ok-Some.ensures.shown
