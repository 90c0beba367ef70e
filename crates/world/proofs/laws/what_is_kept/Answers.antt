use Rattle.world.proofs.Clauses.{acks-stay, taken-once, acks-one_revision, nothing-taken_back, taken-is_again, state-is_fold}
use Rattle.world.proofs.laws.what_is_kept.Goals as goal

pub returns-clause-acks_stay : goal.returns-clause-acks_stay
returns-clause-acks_stay c = acks-stay

pub returns-clause-taken_once : goal.returns-clause-taken_once
returns-clause-taken_once c = taken-once

pub returns-clause-one_revision : goal.returns-clause-one_revision
returns-clause-one_revision c = acks-one_revision

pub returns-clause-nothing_taken_back : goal.returns-clause-nothing_taken_back
returns-clause-nothing_taken_back c = nothing-taken_back

pub returns-clause-taken_is_again : goal.returns-clause-taken_is_again
returns-clause-taken_is_again c = taken-is_again

pub returns-clause-state_is_fold : goal.returns-clause-state_is_fold
returns-clause-state_is_fold c = state-is_fold
