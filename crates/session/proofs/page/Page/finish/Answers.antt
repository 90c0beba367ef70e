use Rattle.std.proofs.Common.{rules}
use Rattle.session.proofs.Pages.{ends-written, ends-failed}
use Rattle.session.proofs.page.Page.finish.Goals as goal

pub returns-then-self : goal.returns-then-self
returns-then-self g c = ends-failed _ c.args.out.now c.write.new.out c.args.self.now c.write.new.self (search rules) c.write.ensures.spelled

pub returns : goal.returns
returns g c = ends-written c.args.out.now c.write.new.out c.args.self.now c.write.new.self c.write.ensures.empty (search rules) c.write.ensures.spelled
