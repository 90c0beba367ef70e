use Rattle.std.proofs.Common.{None, cond, ap, ◌∙◌}
use Rattle.std.specs.Str.{bytes_eq}
use Rattle.std.specs.BTreeMap.{get_by_text}
use Rattle.std.proofs.lemmas.Map.Text.{btree_map_updates_text}
use Rattle.revision.proofs.rule.names.Names.remove.Goals as goal

pub returns : goal.returns
returns c = λ q.
    btree_map_updates_text c.as_str.result.now c.args.self.now.map c.remove.new.self None c.remove.ensures.updates q
    ∙ ap (λ bs. cond (bytes_eq bs q) None (get_by_text c.args.self.now.map q)) c.as_str.ensures.text
