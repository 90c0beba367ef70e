use Rattle.std.proofs.Common.{◌≡◌, ◌<◌, ◌+◌, inl, ℕ, List, length, sym, ap, subst, ◌∙◌, arith, rules}
use Rattle.std.specs.Prelude.{Contains}
use Rattle.std.proofs.lemmas.List.{length-map}
use Rattle.revision.specs.Pending.{record_of}
use Rattle.revision.specs.State.{DocumentRecord}
use Rattle.turns.specs.Waiting.{Waiting}
use Rattle.turns.proofs.Marks.{waits_below}
use Rattle.turns.proofs.exchange.exchange_with.Goals.{then-document-documents, else-document-documents}
use Rattle.turns.proofs.exchange.exchange_with.Goals as goal

-- one document more waits, where there is one of this number
pub loop-document-preserved : goal.loop-document-preserved
loop-document-preserved c =
    let most = length c.args.state.now.documents in
    let before = c.loop-document in
    let after = c.if-document-documents.queue in
    let inside : before.document < c.args.state.now.limits.docs = search rules in
    let same : length c.documents.result.now ≡ most =
    sym (length-map c.documents.result.now record_of) ∙ ap (λ (l : List DocumentRecord). length l) c.documents.ensures.documents in
    elim c.if-document-documents.branch [
      | then-document-documents w ↦
          record {
            room = ap (λ (q : Waiting). q.room) w.queue-is ∙ w.add.ensures.room ∙ before.invariant.room;
            so_far =
                subst (λ (l : List ℕ). (k : ℕ) → k < before.document + 1 → k < most → Contains l k) (sym (ap (λ (q : Waiting). q.numbers) w.queue-is))
                (waits_below before.queue.numbers w.add.new.self.numbers before.document most w.add.ensures.behind
                (λ below. w.add.ensures.waits (omega (arith, inside, before.invariant.room))) before.invariant.so_far);
          }
      | else-document-documents w ↦
          record {
            room = ap (λ (q : Waiting). q.room) w.queue-is ∙ before.invariant.room;
            so_far =
                waits_below before.queue.numbers after.numbers before.document most (inl (ap (λ (q : Waiting). q.numbers) w.queue-is))
                (λ below. absurd (omega (arith, below, same, w.if-document-documents.false))) before.invariant.so_far;
          }
    ]
