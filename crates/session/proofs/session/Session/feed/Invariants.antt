use Rattle.std.proofs.Common.{◌≡◌, ◌++◌, false, length, List, ℕ}
use Rattle.session.specs.Ahead.{commands_of, Ahead}
use Rattle.session.specs.Shelf.{Fits}
use Rattle.session.proofs.session.Session.feed.Given as goal

-- what comes of the bytes so far is written, but for what was sent ahead, and the shelf fits
abbrev pub invariant-loop-byte : goal.invariant-loop-byte
invariant-loop-byte g l =
    let contents = g.O.Output.contents in
    record {
      works : l.self.ended ≡ false;
      fits : Fits (g.D.Desk.reached l.desk) l.shelf;
      ahead : (front : List ℕ) × (l.piece ≡ front ++ l.rest)
          × Ahead g.D.Desk.does l.fn.self front (commands_of l.pending.items) l.self l.fn.desk l.desk (contents l.fn.out) (contents l.out);
    }

abbrev pub decreases-loop-byte : goal.decreases-loop-byte
decreases-loop-byte g l = length l.rest
