use Rattle.flusher.proofs.Holdings.{held_few}
use Rattle.flusher.proofs.flusher.Flusher.few.Goals as goal

pub returns-clause-waiting : goal.returns-clause-waiting
returns-clause-waiting g c = held_few c.args.self.now.waiting
