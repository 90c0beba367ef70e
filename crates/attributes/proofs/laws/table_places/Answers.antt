use Rattle.attributes.proofs.Places.{here_at, free_at, free_end, before_more}
use Rattle.attributes.proofs.laws.table_places.Goals as goal

pub returns-clause-here : goal.returns-clause-here
returns-clause-here g c = here_at

pub returns-clause-free : goal.returns-clause-free
returns-clause-free g c = free_at

pub returns-clause-end : goal.returns-clause-end
returns-clause-end g c = free_end

pub returns-clause-more : goal.returns-clause-more
returns-clause-more g c = before_more
