use Rattle.std.proofs.Common.{◌∙◌, List, Err, subst, rules}
use Rattle.session.specs.declared.sent.Sent.{Sent}
use Rattle.session.specs.Replies.{Asks}
use Rattle.session.specs.Ahead.{exchanges_of}
use Rattle.hub_desk.specs.AtHub.{PassesAtHub}
use Rattle.hub_desk.proofs.Tickets.{refused_more, commands_same, take_whole}
use Rattle.hub_desk.proofs.desk.refuse_all.Goals as goal

pub loop-i-preserved : goal.loop-i-preserved
loop-i-preserved c =
    let so_far = c.loop-i.invariant in
    let item = c.index_mut.result.now in
    record {
      commands = commands_same c.loop-i.sent.items c.loop-i.i item (Err c.args.refusal) c.index_mut.ensures.value ∙ so_far.commands;
      refused = refused_more c.args.refusal c.loop-i.sent.items c.loop-i.i item c.requires.memory (search rules) c.index_mut.ensures.value so_far.refused;
    }

pub returns-clause-refused : goal.returns-clause-refused
returns-clause-refused c = λ start desk.
    subst (λ (l : List Sent). Asks (PassesAtHub start) desk (exchanges_of l) desk) (take_whole c.loop-i.sent.items c.loop-i.i (search rules)) (c.loop-i.invariant.refused start desk)
