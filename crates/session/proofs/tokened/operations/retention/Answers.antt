use Rattle.session.proofs.Operators.{spells_retain}
use Rattle.session.proofs.tokened.operations.retention.Goals as goal

pub returns : goal.returns
returns c =
    rw c.retain.ensures (spells_retain c.in_ok-len.len c.in_ok-change.change c.args.reader.now c.length.new.reader c.last_changes.new.reader c.in_ok-len.ensures.range c.in_ok-len.ensures.read c.in_ok-change.ensures)
