use Rattle.std.proofs.Common.{Result, Err, ap}
use Rattle.refusal.specs.declared.Refusal.{Refusal}
use Rattle.revision.proofs.Admitting.{decided_again, decided_refused, decided_taken, decided_without_memory, taken_without_memory}
use Rattle.revision.proofs.past.state.State.decide.Goals as goal

abbrev not_absorbed : Refusal → Result (Unit {0}) Refusal
not_absorbed refusal = Err refusal

pub returns-in-Ok-Again-clause-decided : goal.returns-in-Ok-Again-clause-decided
returns-in-Ok-Again-clause-decided c = decided_again c.args.self.now c.args.command.now c.in-Ok-Again.field-0 c.in-Ok-Again.rev c.in-Ok-Again.field-0-is c.in-Ok-Again.ensures.due

pub returns-clause-decided : goal.returns-clause-decided
returns-clause-decided c = decided_taken c.args.self.now c.absorb.new.self c.args.command.now c.in-Ok-Taken.field-0 c.in-Ok-Taken.taken c.revision.result c.in-Ok-Taken.field-0-is c.in-Ok-Taken.ensures.due c.in_default.ensures.ok c.revision.ensures

pub returns-in-Err-clause-decided : goal.returns-in-Err-clause-decided
returns-in-Err-clause-decided c = decided_refused c.args.self.now c.args.command.now c.in-Err.refusal c.in-Err.ensures.due

pub returns-in-Err-absorb-clause-decided : goal.returns-in-Err-absorb-clause-decided
returns-in-Err-absorb-clause-decided c =
    decided_without_memory c.args.self.now c.absorb.new.self c.args.command.now c.in-Ok-Taken.field-0 c.in-Ok-Taken.taken c.in-Err-absorb.refusal c.in-Ok-Taken.field-0-is
    c.in-Ok-Taken.ensures.grows c.in-Err-absorb.ensures.only (λ strange. c.in-Err-absorb.ensures.stranger.0 (ap not_absorbed strange)) c.in-Err-absorb.ensures.unchanged

pub returns-in-Err-absorb-clause-memory : goal.returns-in-Err-absorb-clause-memory
returns-in-Err-absorb-clause-memory c = λ _.
    taken_without_memory c.args.self.now c.args.command.now c.in-Ok-Taken.field-0 c.in-Ok-Taken.taken c.in-Ok-Taken.field-0-is c.in-Ok-Taken.ensures.due
