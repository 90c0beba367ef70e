use Rattle.world.specs.Law.{AcksStay, AcksAreShown, TakenOnce, OneRevision, NothingTakenBack, TakenIsAgain, ShownStays, StateIsFold}
use Rattle.world.proofs.Clauses.{acks-stay, acks-are_shown, taken-once, acks-one_revision, nothing-taken_back, taken-is_again, shown-stays, state-is_fold, over_all}
use Rattle.world.proofs.Further.{all-nothing_rewritten}
use Rattle.world.proofs.Agreeing.{all-agree}
use Rattle.world.proofs.laws.every_schedule.Goals as goal

pub returns-clause-acks_stay : goal.returns-clause-acks_stay
returns-clause-acks_stay c = over_all AcksStay acks-stay

pub returns-clause-acks_are_shown : goal.returns-clause-acks_are_shown
returns-clause-acks_are_shown c = over_all AcksAreShown acks-are_shown

pub returns-clause-taken_once : goal.returns-clause-taken_once
returns-clause-taken_once c = over_all TakenOnce taken-once

pub returns-clause-one_revision : goal.returns-clause-one_revision
returns-clause-one_revision c = over_all OneRevision acks-one_revision

pub returns-clause-nothing_taken_back : goal.returns-clause-nothing_taken_back
returns-clause-nothing_taken_back c = over_all NothingTakenBack nothing-taken_back

pub returns-clause-taken_is_again : goal.returns-clause-taken_is_again
returns-clause-taken_is_again c = over_all TakenIsAgain taken-is_again

pub returns-clause-shown_stays : goal.returns-clause-shown_stays
returns-clause-shown_stays c = over_all ShownStays shown-stays

pub returns-clause-nothing_rewritten : goal.returns-clause-nothing_rewritten
returns-clause-nothing_rewritten c = all-nothing_rewritten

pub returns-clause-state_is_fold : goal.returns-clause-state_is_fold
returns-clause-state_is_fold c = over_all StateIsFold state-is_fold

pub returns-clause-state_agrees : goal.returns-clause-state_agrees
returns-clause-state_agrees c = all-agree
