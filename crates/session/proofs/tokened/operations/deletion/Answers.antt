use Rattle.session.proofs.Operators.{spells_delete}
use Rattle.session.proofs.tokened.operations.deletion.Goals as goal

pub returns : goal.returns
returns c =
    rw c.delete.ensures (spells_delete c.in_ok-len.len c.args.reader.now c.length.new.reader c.end_object.new.reader c.in_ok-len.ensures.range c.in_ok-len.ensures.read c.in_ok-end_object.ensures)
