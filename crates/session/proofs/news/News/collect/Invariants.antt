use Rattle.std.proofs.Common.{◌≡◌, map, take}
use Rattle.std.specs.List.{flat_map}
use Rattle.session.specs.steps.DueText.{due_text}
use Rattle.session.specs.News as spec
use Rattle.session.proofs.news.News.collect.Given as goal

-- the news of the subscriptions so far
abbrev pub invariant-loop-entry : goal.invariant-loop-entry
invariant-loop-entry l = record {
  text : flat_map due_text l.lines.items ≡ spec.news (take l.entry-index l.subscriptions) l.state;
  last : l.last.items ≡ map (λ one. spec.last_in l.state one.0 one.1) (take l.entry-index l.subscriptions);
}
