use Rattle.std.proofs.Common.{◌≡◌, ◌∙◌, false, rules, subst, sym}
use Rattle.hub.specs.Runs.{Writer}
use Rattle.turns.specs.Counting.{IsAt}
use Rattle.turns.proofs.Writing.{writes_none, writes_held}
use Rattle.turns.proofs.Counting.{at_none, at_held, follows}
use Rattle.turns.proofs.turn.fetch_batch.Goals as goal

pub returns-then-holds-clause-writes : goal.returns-then-holds-clause-writes
returns-then-holds-clause-writes g c = writes_none g.L.Life.start c.args.flusher.now c.kept.ensures

pub returns-in-Err-clause-writes : goal.returns-in-Err-clause-writes
returns-in-Err-clause-writes g c = writes_none g.L.Life.start c.args.flusher.now c.kept.ensures

pub returns-in-Err-taken-clause-writes : goal.returns-in-Err-taken-clause-writes
returns-in-Err-taken-clause-writes g c = writes_none g.L.Life.start c.args.flusher.now c.kept.ensures

pub returns-in-Ok-taken-clause-writes : goal.returns-in-Ok-taken-clause-writes
returns-in-Ok-taken-clause-writes g c =
    let none : c.holds.result ≡ false = search rules in
    let e = c.hold.ensures in
    writes_held g.L.Life.start c.args.flusher.now c.hold.new.self c.in-Ok-taken.run'.commands e.opened c.kept.ensures e.store e.told e.committed (c.holds.ensures.held none).1 e.waiting

pub returns-in-Err-clause-at : goal.returns-in-Err-clause-at
returns-in-Err-clause-at g c = subst (λ (w : Writer). IsAt w c.args.flusher.now) (sym c.in-Err.ensures.only.1) c.requires.at

pub returns-in-Err-taken-clause-at : goal.returns-in-Err-taken-clause-at
returns-in-Err-taken-clause-at g c = at_none c.args.writer.now c.take_next.new.writer c.args.flusher.now (rw c.in-Err-taken.is at c.in-Ok.ensures.none).1 c.requires.at

pub returns-in-Ok-taken-clause-at : goal.returns-in-Ok-taken-clause-at
returns-in-Ok-taken-clause-at g c =
    let none : c.holds.result ≡ false = search rules in
    let still = c.holds.ensures.held none in
    at_held c.args.writer.now c.take_next.new.writer c.args.flusher.now c.hold.new.self c.in-Ok-taken.run'.commands still.0 still.1 (rw c.in-Ok-taken.is at c.in-Ok.ensures.next).counts c.hold.ensures c.requires.at

pub hold-requires-clause-next : goal.hold-requires-clause-next
hold-requires-clause-next g c =
    let none : c.holds.result ≡ false = search rules in
    let still = c.holds.ensures.held none in
    (rw c.in-Ok-taken.is at c.in-Ok.ensures.next).place ∙ follows c.args.writer.now c.args.flusher.now still.0 still.1 c.requires.at
