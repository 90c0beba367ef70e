use Rattle.std.proofs.Common.{◌≡◌, ◌≤◌, List, length, take, rules, sym, ap, subst, ◌∙◌}
use Rattle.delta.specs.Element.{Element}
use Rattle.world.specs.Progress.{next_run, taken_more}
use Rattle.world.specs.World.{takens}
use Rattle.hub.specs.Runs.{AreMadeThere, untaken}
use Rattle.hub.proofs.Making.{run_made, rest_made, takes}
use Rattle.hub.proofs.board.Board.take.Goals as goal

pub by_board-run-requires-clause-made : goal.by_board-run-requires-clause-made
by_board-run-requires-clause-made g c =
    let first : c.replace-made.result.items ≡ take c.longest-count.result c.self.inside.made.items = ap (λ v. v.items) c.replace-made.ensures.value ∙ c.in_ok-rest.ensures.first in
    let is : c.in_ok-batch.batch ≡ takens (next_run c.self.inside.progress c.longest-count.result) = search rules in
    subst (λ (d : List (List Element)). AreMadeThere g.L.Life.start c.self.inside.progress.order c.self.inside.progress.taken c.in_ok-batch.batch d) (sym first)
    (run_made g.L.Life.start c.self.inside.progress c.self.inside.made.items c.self.invariant.7 c.longest-count.result c.in_ok-batch.batch is)

pub invariant_of-self-3 : goal.invariant_of-self-3
invariant_of-self-3 g c =
    let within : c.longest-count.result ≤ length (untaken c.self.inside.progress) = search rules in
    let new : c.take.new.self ≡ taken_more c.self.inside.progress c.longest-count.result = c.take.ensures.progress ∙ takes c.self.inside.progress c.longest-count.result within in (
      search rules,
      search rules,
      search rules,
      search rules,
      search rules,
      search rules,
      search rules,
      subst (λ (d : List (List Element)). AreMadeThere g.L.Life.start c.take.new.self.order c.take.new.self.taken (untaken c.take.new.self) d) (sym c.in_ok-rest.ensures.rest)
          (rest_made g.L.Life.start c.self.inside.progress c.self.inside.made.items c.self.invariant.7 c.longest-count.result c.take.new.self new),
    )
