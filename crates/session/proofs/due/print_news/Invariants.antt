use Rattle.std.proofs.Common.{◌≡◌, ◌+◌, length}
use Rattle.session.specs.News.{lines_of}
use Rattle.session.proofs.Pages.{SpellsFront}
use Rattle.session.proofs.due.print_news.Given as goal

-- the lines of the deltas before the rest are spelled
abbrev pub invariant-loop-delta : goal.invariant-loop-delta
invariant-loop-delta g l = record {
  revision : l.revision + length l.rest ≡ l.last + length l.deltas;
  spelled : SpellsFront g.O.Output.contents g.O.Output.has_failed l.fn.out l.fn.page l.out l.page
      (lines_of l.name l.revision l.rest) (lines_of l.name l.last l.deltas);
}

abbrev pub decreases-loop-delta : goal.decreases-loop-delta
decreases-loop-delta g l = length l.rest
