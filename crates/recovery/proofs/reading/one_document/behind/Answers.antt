use Rattle.std.proofs.Common.{◌∙◌, rules}
use Rattle.std.specs.Prelude.{nat_lt}
use Rattle.std.proofs.lemmas.Fn.{filter_same}
use Rattle.revision.specs.Command.{Taken}
use Rattle.recovery.proofs.Gathering.{above-filter}
use Rattle.recovery.proofs.reading.one_document.behind.Goals as goal

pub returns : goal.returns
returns c =
    filter_same _ (λ (t : Taken). nat_lt c.args.revision t.revision) _ (λ x b f' k. search rules) c.args.entries.items c.retain.new.self.items c.retain.ensures.filtered
    ∙ above-filter c.args.revision c.args.entries.items
