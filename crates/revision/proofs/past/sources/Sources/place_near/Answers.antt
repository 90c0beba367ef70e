use Rattle.std.proofs.Common.{sym}
use Rattle.revision.proofs.Halves.{here_named}
use Rattle.revision.proofs.past.sources.Sources.place_near.Goals as goal

pub returns-then-stands_at : goal.returns-then-stands_at
returns-then-stands_at c =
    here_named c.args.name.now c.args.self.now.entries c.args.place_hint c.args.self.now.ascending (sym c.if-stands_at.ensures)
