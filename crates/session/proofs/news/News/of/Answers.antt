use Rattle.std.proofs.Common.{rules}
use Rattle.session.proofs.Newsworthy.{are_none}
use Rattle.session.proofs.news.News.of.Goals as goal

pub returns-clause-none : goal.returns-clause-none
returns-clause-none c is =
    are_none c.args.subscriptions.now c.args.state.now (search rules)
