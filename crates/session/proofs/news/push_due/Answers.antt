use Rattle.std.proofs.Common.{◌≡◌, ◌++◌, ◌∷◌, [], ap, sym, ◌∙◌, rules}
use Rattle.std.specs.List.{flat_map}
use Rattle.std.proofs.lemmas.List.{flat_map_more}
use Rattle.session.specs.steps.DueText.{due_text}
use Rattle.session.proofs.news.push_due.Goals as goal

pub returns : goal.returns
returns c =
    let pushed : c.push.new.self.items ≡ c.args.lines.now.items ++ c.args.due ∷ [] = search rules in
    ap (flat_map due_text) pushed ∙ sym (flat_map_more due_text [] c.args.lines.now.items c.args.due)
