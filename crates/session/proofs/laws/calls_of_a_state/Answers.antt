use Rattle.session.proofs.Alone.{calls_alone}
use Rattle.session.proofs.laws.calls_of_a_state.Goals as goal

pub returns : goal.returns
returns c = calls_alone
