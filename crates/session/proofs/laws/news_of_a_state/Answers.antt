use Rattle.session.proofs.Alone.{hears_alone}
use Rattle.session.proofs.laws.news_of_a_state.Goals as goal

pub returns : goal.returns
returns c = hears_alone
