use Rattle.std.proofs.Common.{List, ap, subst}
use mathlib.Core.List.{IsPrefix}
use Rattle.ownlog.specs.declared.link.Link.{Link}
use Rattle.ownlog.specs.Rules.{items_of}
use Rattle.ownlog.proofs.Cells.{prefix_items}
use Rattle.ownlog.proofs.front.Front.meets.Goals as goal

pub returns : goal.returns
returns g c =
    let both = c.learn.new.self.log in
    let mine = c.self.inside.seen.log in
    let theirs = c.other.inside.seen.log in
    let this : IsPrefix mine both = subst (λ (l : List (Link g.row.T.Denot)). IsPrefix l both) (ap (λ s. s.log) c.again-both.ensures) c.learn.ensures.2 in
    rw (← c.self.view_is, ← c.other.view_is) (items_of both, prefix_items mine both this, prefix_items theirs both c.learn.ensures.3)
