use Rattle.std.proofs.Common.{◌≡◌, true, ap, subst}
use Rattle.attributes.specs.Map.{entries_of}
use Rattle.revision.specs.Name.{is_source_name}
use Rattle.revision.specs.Sources.{are_named}
use Rattle.revision.proofs.Named.{named-found}
use Rattle.revision.proofs.past.sources.Sources.see_near.Goals as goal

pub returns-in-Ok-clause-named : goal.returns-in-Ok-clause-named
returns-in-Ok-clause-named c =
    subst (λ n. is_source_name n ≡ true) c.as_str.ensures.text
    (named-found _ _ c.args.self.now.entries (subst (λ l. are_named l ≡ true) (ap entries_of c.self.view_is) c.self.invariant.named) c.in-Ok.ensures.found)
