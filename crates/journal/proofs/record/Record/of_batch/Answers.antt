use Rattle.std.proofs.Common.{◌≡◌, ◌∙◌, ◌++◌, ◌∷◌, ◌<◌, ◌^◌, List, ℕ, [], length, ap, arith}
use Rattle.std.specs.Int.{w32, to_le_bytes}
use Rattle.journal.specs.Area.{frame}
use Rattle.journal.specs.BatchSpelling.{batch, batch_width}
use Rattle.journal.proofs.BatchWidths.{length-batch}
use Rattle.journal.proofs.Framed.{is_framed, body_of_framed}
use Rattle.journal.proofs.record.Record.of_batch.Goals as goal

-- the length, the spelling and the closed gate
whole : (c : goal.In_ok-push) → c.push.new.self.items ≡ frame (batch c.args.batch.now) ++ 0 ∷ []
whole c =
    let wide = length-batch c.args.batch.now in
    let short : batch_width c.args.batch.now < 2 ^ 32 = c.requires.body in
    let empty : c.in_ok-bytes.bytes.items ≡ [] = c.in_ok-bytes.ensures.items in
    let number : c.to_le_bytes.result ≡ to_le_bytes w32 (length (batch c.args.batch.now)) = c.to_le_bytes.ensures ∙ ap (to_le_bytes w32) (omega (arith, c.batch_len-len.ensures.len, wide, short)) in
    c.in_ok-push.ensures.items
    ∙ ap (λ (l : List ℕ). l ++ 0 ∷ []) (c.in_ok-put_batch.ensures.spelled
    ∙ ap (λ (l : List ℕ). l ++ batch c.args.batch.now) (c.in_ok-extend_from_slice.ensures.items ∙ ap (λ (l : List ℕ). l ++ c.to_le_bytes.result) empty ∙ number))

pub invariant_of-result : goal.invariant_of-result
invariant_of-result c =
    let wide = length-batch c.args.batch.now in
    is_framed c.push.new.self.items (batch c.args.batch.now) (whole c) (record { some = omega (arith, wide); short = omega (arith, wide, c.requires.body) })

pub returns-clause-width : goal.returns-clause-width
returns-clause-width c = ap length (body_of_framed c.push.new.self.items (batch c.args.batch.now) (whole c)) ∙ length-batch c.args.batch.now
