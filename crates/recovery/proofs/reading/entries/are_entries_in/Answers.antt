use Rattle.std.proofs.Common.{◌↔◌, sym, subst}
use Rattle.std.specs.Prelude.{IsTrue}
use Rattle.milestone.specs.declared.format.Format.{Format}
use Rattle.recovery.specs.Found.{AreEntriesIn}
use Rattle.recovery.proofs.Editing.{entries_edit}
use Rattle.recovery.proofs.reading.entries.are_entries_in.Goals as goal

pub returns-in-One : goal.returns-in-One
returns-in-One c = λ entries by.
    subst (λ (f : Format). IsTrue c.lists_edit.result ↔ AreEntriesIn f entries) (sym c.in-One.is)
    (entries_edit entries c.args.lists.now c.lists_edit.result by c.lists_edit.ensures)
