use Rattle.std.proofs.Common.{◌++◌, ◌∙◌, length, ap, subst}
use mathlib.Core.List.{IsPrefix}
use Rattle.recovery.specs.Found.{commands_of}
use Rattle.flusher.specs.Holding.{told_of, committed_of, waiting_of}
use Rattle.server_threads.proofs.Ended.{still_published}
use Rattle.server_threads.proofs.Tallied.{begins_longer, found_longer, told_longer}
use Rattle.server_threads.proofs.life.ending_of.Goals as goal

-- the flusher is unchanged, and its tokens have what the desks' have
pub returns-clause-tallied : goal.returns-clause-tallied
returns-clause-tallied g c desks tallied =
    let last = c.args.both.flusher in
    let closing = c.args.both.left.1 in
    record {
      store = c.covers.ensures.store;
      kept = record { state = c.kept.ensures };
      lasts = c.lasts.ensures;
      few_committed = c.few.ensures.committed;
      few_waiting = c.few.ensures.waiting;
      begins = begins_longer (commands_of (told_of last ++ (committed_of last ++ waiting_of last))) c.ordered-ordered.result c.join.new.ordered
          c.ordered-ordered.ensures.begins c.join.ensures.before;
      found = found_longer closing.ordered c.join.new.ordered desks (subst (λ l. IsPrefix l c.join.new.ordered) c.of-found.ensures c.join.ensures.found) tallied.found;
      so_many = ap (λ t. length (commands_of t)) c.covers.ensures.batches.told;
      told = told_longer closing.told (told_of last ++ committed_of last) desks c.covers.ensures.begins tallied.told;
      counts = tallied.counts;
    }

-- what is published stays
pub invariant_of-past : goal.invariant_of-past
invariant_of-past g c = record {
  all = still_published c.args.both.writer c.args.both.flusher c.covers.new.self c.args.both.written c.covers.ensures.batches.told c.args.both.all;
}
