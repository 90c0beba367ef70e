use Rattle.recovery.proofs.superblock.read_superblock.Goals as goal
use Rattle.std.proofs.Common.{◌≡◌, true, false, take, ap, sym, ◌∙◌, arith, rules}
use Rattle.recovery.specs.Shape.{is_in_range, letters}
use Rattle.recovery.proofs.Superblocks.{letters_first, read_is_spelled, spelled_is_read, ranges_of}

pub returns-then-is_in_range-clause-found : goal.returns-then-is_in_range-clause-found
returns-then-is_in_range-clause-found c =
    let letters : take 8 c.args.bytes.now ≡ letters c.args.format = search rules in (
      read_is_spelled c.args.format c.args.bytes.now _ c.requires (λ i. omega (arith, c.type_inv.bytes i)) c.number_at.ensures c.number_at-2.ensures c.number_at-3.ensures c.number_at-4.ensures c.number_at-5.ensures c.number_at-6.ensures letters,
      sym c.is_in_range.ensures ∙ c.if-is_in_range.true,
    )

pub returns-else-is_in_range-clause-none : goal.returns-else-is_in_range-clause-none
returns-else-is_in_range-clause-none c other in_range same =
    let is = spelled_is_read c.args.format c.args.bytes.now _ c.requires (λ i. omega (arith, c.type_inv.bytes i)) c.number_at.ensures c.number_at-2.ensures c.number_at-3.ensures c.number_at-4.ensures c.number_at-5.ensures c.number_at-6.ensures other (ranges_of other in_range) same in
    let both : false ≡ true = sym c.if-is_in_range.false ∙ c.is_in_range.ensures ∙ ap is_in_range is ∙ in_range in
    absurd cc

-- bytes with other letters name no shape in the format
pub returns-then-not-has_letters-clause-none : goal.returns-then-not-has_letters-clause-none
returns-then-not-has_letters-clause-none c other in_range same =
    let there : take 8 c.args.bytes.now ≡ letters c.args.format = ap (take 8) same ∙ letters_first c.args.format other in
    search (rules, there)
