use Rattle.std.proofs.Common.{◌≡◌, true, length}
use Rattle.std.specs.Vec.Iter.{into_iter_items, into_iter_len}
use Rattle.revision.specs.State.{fold, all_grow, first_grows}
use Rattle.revision.proofs.past.documents.Documents.prepare_all_owned.Given as goal

-- what is prepared, with what is left, makes what all of them make
abbrev pub invariant-loop-taken : goal.invariant-loop-taken
invariant-loop-taken l = record {
  before : l.self.before ≡ l.fn.self.before;
  so_far : fold l.self.after (into_iter_items l.taken-iterator) ≡ fold l.fn.self.after l.fn.batch.items;
  grows : all_grow l.self.after (into_iter_items l.taken-iterator) ≡ all_grow l.fn.self.after l.fn.batch.items;
  first : first_grows l.self.after (into_iter_items l.taken-iterator) ≡ true → first_grows l.fn.self.after l.fn.batch.items ≡ true;
  count : into_iter_len l.taken-iterator ≡ length (into_iter_items l.taken-iterator);
}
