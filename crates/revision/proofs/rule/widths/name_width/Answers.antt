use Rattle.std.proofs.Common.{subst}
use Rattle.std.specs.Str.{IsUtf8}
use Rattle.std.proofs.lemmas.Str.{is_utf8-from_IsUtf8}
use Rattle.revision.proofs.rule.widths.name_width.Goals as goal

pub returns-clause-name : goal.returns-clause-name
returns-clause-name c = record {
  key = c.as_str.ensures.kept;
  valid = is_utf8-from_IsUtf8 c.args.name.now (subst IsUtf8 c.as_str.ensures.text c.as_str.utf8);
}
