use Rattle.delta.proofs.LeftOver.{normal-rest, none_empty-normal, normal-parts}
use Rattle.delta.proofs.Neighbours.{built-parts, may_lead-text, may_lead-retain}
use Rattle.delta.proofs.laws.normal_lists.Goals as goal

pub returns-clause-normal_of_rest : goal.returns-clause-normal_of_rest
returns-clause-normal_of_rest c = normal-rest

pub returns-clause-normal_is_filled : goal.returns-clause-normal_is_filled
returns-clause-normal_is_filled c = none_empty-normal

pub returns-clause-normal_in_parts : goal.returns-clause-normal_in_parts
returns-clause-normal_in_parts c = normal-parts

pub returns-clause-built_in_parts : goal.returns-clause-built_in_parts
returns-clause-built_in_parts c = built-parts

pub returns-clause-lead_of_text : goal.returns-clause-lead_of_text
returns-clause-lead_of_text c = may_lead-text

pub returns-clause-lead_of_retain : goal.returns-clause-lead_of_retain
returns-clause-lead_of_retain c = may_lead-retain
