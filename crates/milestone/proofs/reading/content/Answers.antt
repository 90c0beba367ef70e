use Rattle.std.proofs.Common.{◌≡◌, ◌<◌, rules}
use Rattle.delta.specs.Operation.{base_of}
use Rattle.milestone.proofs.Fields.{content_none, other_content, read_content}
use Rattle.milestone.proofs.reading.content.Goals as goal

pub returns-in_default-clause-none : goal.returns-in_default-clause-none
returns-in_default-clause-none c = λ is. content_none c.args.bytes.now (search rules)

pub returns-in-Ok-clause-found : goal.returns-in-Ok-clause-found
returns-in-Ok-clause-found c =
    let none : base_of c.in-Some.delta ≡ 0 = search rules in
    read_content c.in-Some.delta c.in-Ok.document c.args.bytes.now c.in-Some.rest.now (search rules) (search rules) none (search rules)

pub returns-in-Err-PastEnd-clause-none : goal.returns-in-Err-PastEnd-clause-none
returns-in-Err-PastEnd-clause-none c = λ is.
    let some : 0 < base_of c.in-Some.delta = search rules in
    other_content c.in-Some.delta c.args.bytes.now c.in-Some.rest.now (search rules) (search rules) some
