use Rattle.std.proofs.lemmas.Bool.{ltb-false}
use Rattle.json.proofs.Printed.Strings.{escape_byte_plain}
use Rattle.session.proofs.quoting.is_escaped.Goals as goal

pub returns : goal.returns
returns c = λ high. escape_byte_plain c.args.byte c.if-byte-eq34.false c.if-byte-eq92.false (ltb-false c.args.byte 32 high)
