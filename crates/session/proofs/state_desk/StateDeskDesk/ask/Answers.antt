use Rattle.std.proofs.Common.{◌≡◌, true, rules}
use Rattle.revision.specs.State.{grows}
use Rattle.session.proofs.Later.{later_by}
use Rattle.session.proofs.state_desk.StateDeskDesk.ask.Goals as goal

pub returns-in_err-add-in-Taken-clause-later : goal.returns-in_err-add-in-Taken-clause-later
returns-in_err-add-in-Taken-clause-later c =
    let grow : grows c.args.self.now c.in-Taken.taken ≡ true = search rules in
    later_by c.args.self.now c.add.new.self c.in-Taken.taken c.add.result grow c.add.ensures.added c.add.ensures.unchanged

pub returns-in_ok-add-in-Taken-clause-later : goal.returns-in_ok-add-in-Taken-clause-later
returns-in_ok-add-in-Taken-clause-later c =
    let grow : grows c.args.self.now c.in-Taken.taken ≡ true = search rules in
    later_by c.args.self.now c.add.new.self c.in-Taken.taken c.add.result grow c.add.ensures.added c.add.ensures.unchanged
