use Rattle.std.proofs.Common.{Some, cond, ap, ◌∙◌}
use Rattle.std.specs.Str.{bytes_eq}
use Rattle.std.specs.BTreeMap.{get_by_text}
use Rattle.std.proofs.lemmas.Map.Text.{btree_map_updates_text}
use Rattle.revision.proofs.rule.names.Names.insert.Goals as goal

pub returns-clause-ok : goal.returns-clause-ok
returns-clause-ok c = λ q.
    btree_map_updates_text _ c.args.self.now.map c.insert.new.self (Some c.args.number) c.in_ok-insert.ensures.updates q
    ∙ ap (λ bs. cond (bytes_eq bs q) (Some c.args.number) (get_by_text c.args.self.now.map q)) (c.in_ok-text.ensures.ok ∙ c.as_str.ensures.text)
