use Rattle.std.proofs.Common.{◌≡◌, false, arith, rules}
use Rattle.revision.specs.Name.{is_source_name}
use Rattle.milestone.proofs.Fields.{name_none, other_name}
use Rattle.milestone.proofs.reading.source_name.Goals as goal

pub returns-in_default-clause-none : goal.returns-in_default-clause-none
returns-in_default-clause-none c = λ is. name_none 32 c.args.bytes.now (omega arith) c.in_default.ensures.none

pub returns-in-Err-BadName-clause-none : goal.returns-in-Err-BadName-clause-none
returns-in-Err-BadName-clause-none c = λ is.
    let isnt : is_source_name c.in-Some.text.now ≡ false = search rules in
    other_name 32 c.args.bytes.now c.in-Some.text.now c.in-Some.rest.now (omega arith) c.in-Some.ensures.found.0 c.in-Some.ensures.found.1 isnt
