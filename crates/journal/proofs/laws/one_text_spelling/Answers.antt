use Rattle.journal.proofs.Fields.{one_text_spelling}
use Rattle.journal.proofs.laws.one_text_spelling.Goals as goal

pub returns : goal.returns
returns c = one_text_spelling
