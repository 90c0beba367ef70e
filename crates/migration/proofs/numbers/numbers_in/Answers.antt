use Rattle.std.proofs.Common.{arith}
use Rattle.milestone.specs.declared.format.Format.TheVariants.{Two}
use Rattle.recovery.specs.declared.shape.Shape.{Shape}
use Rattle.recovery.proofs.Superblocks.{spelled_is_read, ranges_of}
use Rattle.migration.proofs.numbers.numbers_in.Goals as goal

pub returns : goal.returns
returns c other in_range same =
    let shape : Shape = record {
      slots = c.number_at.result;
      slot = c.number_at-2.result;
      docs = c.number_at-3.result;
      cell = c.number_at-4.result;
      sources = c.number_at-5.result;
      keep = c.number_at-6.result;
    } in
    spelled_is_read Two c.args.bytes.now shape c.requires (λ i. omega (arith, c.type_inv.bytes i)) c.number_at.ensures c.number_at-2.ensures c.number_at-3.ensures
    c.number_at-4.ensures c.number_at-5.ensures c.number_at-6.ensures other (ranges_of other in_range) same
