use Rattle.view.proofs.Showing.{was_appended}
use Rattle.view.proofs.publisher.appended.Goals as goal

pub returns-in-Ok-clause-waiting : goal.returns-in-Ok-clause-waiting
returns-in-Ok-clause-waiting g c =
    was_appended c.append.result c.is_ok.result _ _ c.in-Ok.news _ c.is_ok.ensures.value c.append.ensures.pending c.requires.waiting c.in-Ok.ensures.news
