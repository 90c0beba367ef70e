use Rattle.std.proofs.Common.{List, subst, rules}
use Rattle.std.specs.Borrow.{Bor}
use Rattle.std.proofs.lemmas.List.{take_all}
use Rattle.revision.specs.Command.{Command}
use Rattle.hub.specs.Found.{AreSubmittedAfter}
use Rattle.hub.proofs.Submitting.{lent, submitted_more, counts_more}
use Rattle.hub.proofs.locked.Locked.submit_all_after.Goals as goal

pub loop-i-preserved : goal.loop-i-preserved
loop-i-preserved g c =
    let so_far = c.loop-i.invariant in
    let one = c.index-commands-i.result in
    let t = c.submit_after-answer.result in
    record {
      after = submitted_more g.L.Life.start c.args.told.now c.args.found.now c.loop-i.found c.submit_after-answer.new.found c.args.commands.now c.loop-i.i one c.loop-i.answers.items c.push_in_room.new.answers.items t (search rules) c.index-commands-i.is so_far.after c.submit_after-answer.ensures.after c.push_in_room.ensures.items;
      counts = counts_more c.args.seat.now c.loop-i.seat c.submit_after-answer.new.seat c.loop-i.answers.items c.push_in_room.new.answers.items t so_far.counts c.submit_after-answer.ensures.counts c.push_in_room.ensures.items;
      so_many = search rules;
      room = search rules;
      others = search rules;
    }

pub returns-clause-after : goal.returns-clause-after
returns-clause-after g c =
    subst (λ (l : List (Bor Command)). AreSubmittedAfter g.L.Life.start c.args.told.now c.args.found.now (lent l) c.loop-i.answers.items c.loop-i.found) (take_all c.loop-i.i c.args.commands.now (search rules)) c.loop-i.invariant.after
