use Rattle.delta.proofs.Settling.{settled-settled, settled-front, past-front, settled-joined, settled-joined_settled}
use Rattle.delta.proofs.Shortest.{shortest-joined}
use Rattle.delta.proofs.Trimmed.{nf-with_plain}
use Rattle.delta.proofs.laws.settling.Goals as goal

pub returns-clause-settled_twice : goal.returns-clause-settled_twice
returns-clause-settled_twice c = settled-settled

pub returns-clause-settled_of_front : goal.returns-clause-settled_of_front
returns-clause-settled_of_front c = settled-front

pub returns-clause-past_of_front : goal.returns-clause-past_of_front
returns-clause-past_of_front c = past-front

pub returns-clause-settled_in_pieces : goal.returns-clause-settled_in_pieces
returns-clause-settled_in_pieces c = settled-joined

pub returns-clause-settled_from_pieces : goal.returns-clause-settled_from_pieces
returns-clause-settled_from_pieces c = settled-joined_settled

pub returns-clause-trimmed_of_kept : goal.returns-clause-trimmed_of_kept
returns-clause-trimmed_of_kept c = shortest-joined

pub returns-clause-normal_of_plain : goal.returns-clause-normal_of_plain
returns-clause-normal_of_plain c = nf-with_plain
