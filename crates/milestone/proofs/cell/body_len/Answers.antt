use Rattle.std.proofs.Common.{sym, arith}
use Rattle.std.proofs.lemmas.Nat.{le_bytes_4}
use Rattle.milestone.proofs.cell.body_len.Goals as goal

pub returns-clause-len : goal.returns-clause-len
returns-clause-len c = sym (le_bytes_4 c.args.bytes.now _ c.requires (λ i. omega (arith, c.type_inv.bytes i)) c.from_le_bytes.ensures)
