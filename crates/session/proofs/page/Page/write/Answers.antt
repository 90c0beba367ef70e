use Rattle.std.proofs.Common.{◌≡◌, true, false, subst, rules}
use Rattle.std.specs.Io.KnownBytes.{Appends}
use Rattle.session.specs.Output.{AppendsFront}
use Rattle.session.proofs.Pages.{spells-nothing, spells-written, spells-broken, spells-closed}
use Rattle.session.proofs.page.Page.write.Goals as goal

pub returns-then-self-clause-spelled : goal.returns-then-self-clause-spelled
returns-then-self-clause-spelled g c =
    let failed : c.args.self.now.failed ≡ true = search rules in
    spells-closed c.args.out.now c.args.self.now _ failed (search rules)

pub returns-in-Ok-clause-spelled : goal.returns-in-Ok-clause-spelled
returns-in-Ok-clause-spelled g c =
    let contents = g.O.Output.contents in
    let works : c.args.self.now.failed ≡ false = search rules in
    let waits : c.as_slice.result.now ≡ c.args.self.now.waiting = search rules in
    spells-written c.args.out.now c.put.new.self c.args.self.now _ works (search rules)
    (subst (Appends (contents c.args.out.now) (contents c.put.new.self)) waits c.in-Ok.ensures.written)

pub returns-in-Err-clause-spelled : goal.returns-in-Err-clause-spelled
returns-in-Err-clause-spelled g c =
    let contents = g.O.Output.contents in
    let works : c.args.self.now.failed ≡ false = search rules in
    let waits : c.as_slice.result.now ≡ c.args.self.now.waiting = search rules in
    spells-broken c.args.out.now c.put.new.self c.args.self.now _ works (search rules)
    (subst (AppendsFront (contents c.args.out.now) (contents c.put.new.self)) waits c.in-Err.ensures.front) c.in-Err.ensures.failed

pub returns-then-is_empty-clause-spelled : goal.returns-then-is_empty-clause-spelled
returns-then-is_empty-clause-spelled g c = spells-nothing c.args.out.now c.args.self.now
