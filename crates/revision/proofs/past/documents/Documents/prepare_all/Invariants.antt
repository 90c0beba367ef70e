use Rattle.std.proofs.Common.{◌≡◌, true, drop}
use Rattle.revision.specs.Made.{AreMade}
use Rattle.revision.specs.State.{fold, all_grow, first_grows}
use Rattle.revision.proofs.past.documents.Documents.prepare_all.Given as goal

abbrev pub invariant-loop-i : goal.invariant-loop-i
invariant-loop-i l = record {
  before : l.self.before ≡ l.fn.self.before;
  so_far : fold l.self.after (drop l.i l.batch) ≡ fold l.fn.self.after l.batch;
  grows : all_grow l.self.after (drop l.i l.batch) ≡ all_grow l.fn.self.after l.batch;
  first : first_grows l.self.after (drop l.i l.batch) ≡ true → first_grows l.fn.self.after l.batch ≡ true;
  made : AreMade l.self.after (drop l.i l.batch) (drop l.i l.made);
}
