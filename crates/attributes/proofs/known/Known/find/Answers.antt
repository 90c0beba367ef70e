use Rattle.std.proofs.Common.{sym, ◌∙◌}
use Rattle.attributes.specs.Attributes.{same_attributes-Decides}
use Rattle.attributes.proofs.known.Known.find.Goals as goal

pub returns-then-eq : goal.returns-then-eq
returns-then-eq c = (same_attributes-Decides _ _).0 (sym c.eq.ensures ∙ c.if-eq.true)
