use Rattle.delta.proofs.LeftOver.{left_after-within, left_after-beyond, left_after-whole, left_after-append, first-whole, counted-cut, len-first, len-last, base-cut, length-left, length-whole, normal-left, none_empty-left}
use Rattle.delta.proofs.laws.operations_in_parts.Goals as goal

pub returns-clause-left_within : goal.returns-clause-left_within
returns-clause-left_within c = left_after-within

pub returns-clause-left_beyond : goal.returns-clause-left_beyond
returns-clause-left_beyond c = left_after-beyond

pub returns-clause-left_of_whole : goal.returns-clause-left_of_whole
returns-clause-left_of_whole c = left_after-whole

pub returns-clause-left_before_more : goal.returns-clause-left_before_more
returns-clause-left_before_more c = left_after-append

pub returns-clause-first_of_whole : goal.returns-clause-first_of_whole
returns-clause-first_of_whole c = first-whole

pub returns-clause-counted_in_parts : goal.returns-clause-counted_in_parts
returns-clause-counted_in_parts c = counted-cut

pub returns-clause-length_of_first : goal.returns-clause-length_of_first
returns-clause-length_of_first c = len-first

pub returns-clause-length_of_last : goal.returns-clause-length_of_last
returns-clause-length_of_last c = len-last

pub returns-clause-base_in_parts : goal.returns-clause-base_in_parts
returns-clause-base_in_parts c = base-cut

pub returns-clause-count_of_left : goal.returns-clause-count_of_left
returns-clause-count_of_left c = length-left

pub returns-clause-count_of_whole : goal.returns-clause-count_of_whole
returns-clause-count_of_whole c = length-whole

pub returns-clause-normal_of_left : goal.returns-clause-normal_of_left
returns-clause-normal_of_left c = normal-left

pub returns-clause-left_is_filled : goal.returns-clause-left_is_filled
returns-clause-left_is_filled c = none_empty-left
