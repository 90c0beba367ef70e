use Rattle.std.proofs.Common.{sym, arith}
use Rattle.std.proofs.lemmas.Nat.{le_bytes_8}
use Rattle.segments.proofs.reading.segment_number.Goals as goal

pub returns : goal.returns
returns c = sym (le_bytes_8 c.args.bytes.now _ c.requires (λ i. omega (arith, c.type_inv.bytes i)) c.from_le_bytes.ensures)
