use Rattle.std.proofs.Common.{[]}
use Rattle.session.proofs.Pages.{begun}
use Rattle.session.proofs.session.write_replies.Goals as goal

pub returns : goal.returns
returns g c =
    let base = g.O.Output.contents c.args.out.now in
    let told = c.print_replies.ensures in
    let spelled = told.2.behind base [] (begun c.args.out.now c.begin.new.self c.begin.ensures) in
    record {
      written = (told.0, told.1, c.finish.ensures.written base told.0 spelled, c.finish.ensures.front base told.0 spelled);
      failed = c.finish.ensures.cause base told.0 spelled;
    }
