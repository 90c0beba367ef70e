use Rattle.std.proofs.Common.{[]}
use Rattle.session.proofs.Pages.{begun}
use Rattle.session.proofs.session.write_reply.Goals as goal

pub returns : goal.returns
returns g c =
    let base = g.O.Output.contents c.args.out.now in
    let spelled = c.print_reply.ensures.behind base [] (begun c.args.out.now c.begin.new.self c.begin.ensures) in
    record {
      written = c.finish.ensures.written base _ spelled;
      front = c.finish.ensures.front base _ spelled;
      failed = c.finish.ensures.cause base _ spelled;
    }
