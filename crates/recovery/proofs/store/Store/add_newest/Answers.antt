use Rattle.std.proofs.Common.{◌≡◌, ◌∷◌, [], ◌++◌, rules}
use Rattle.recovery.proofs.store.Store.add_newest.Goals as goal

pub returns-clause-added : goal.returns-clause-added
returns-clause-added g c =
    let pushed : c.push.new.self.items ≡ c.args.members.now.items ++ c.in-Ok.member ∷ [] = search rules in
    (c.in-Ok.member, pushed, c.in-Ok.ensures.newest, c.in-Ok.ensures.document, search rules)
