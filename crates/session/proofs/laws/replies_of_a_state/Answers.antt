use Rattle.session.proofs.Alone.{fed_alone}
use Rattle.session.proofs.laws.replies_of_a_state.Goals as goal

pub returns : goal.returns
returns c = fed_alone
