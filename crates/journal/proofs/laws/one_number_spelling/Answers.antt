use Rattle.journal.proofs.Fields.{one_number32_spelling, one_number64_spelling}
use Rattle.journal.proofs.laws.one_number_spelling.Goals as goal

pub returns-clause-four : goal.returns-clause-four
returns-clause-four c = one_number32_spelling

pub returns-clause-eight : goal.returns-clause-eight
returns-clause-eight c = one_number64_spelling
