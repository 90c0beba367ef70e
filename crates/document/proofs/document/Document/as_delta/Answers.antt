use Rattle.std.proofs.Common.{◌≡◌, ◌++◌, ◌∙◌, refl, sym, length, ap, arith, append_assoc, append-nil, length-append}
use Rattle.std.proofs.lemmas.List.{nil_from_length}
use Rattle.delta.specs.Gaps.{End}
use Rattle.delta.specs.Normal.{nf, spelled}
use Rattle.document.specs.Pieces.{piece_units}
use Rattle.document.proofs.Inserting.{spelled_more, bounded_more, only_memory, finished, finished_base, finished_back}
use Rattle.document.proofs.Passing.{length-parts}
use Rattle.document.proofs.Progress.{whole_at_end}
use Rattle.document.proofs.document.Document.as_delta.Goals as goal
use Rattle.document.proofs.document.Document.as_delta.Goals.{After-finish}

pub unreachable-requires : goal.unreachable-requires
unreachable-requires c = whole_at_end c.loop-left.cursor c.loop-left.left (sym c.loop-left.invariant.left) c.in-Err.ensures.parted

pub as_alloc_error-requires : goal.as_alloc_error-requires
as_alloc_error-requires c =
    let so_far = c.loop-left.invariant.made in
    only_memory c.in-Err-push.refusal _
    (bounded_more so_far.0 c.loop-left.builder c.in_ok-op.op so_far.1 c.in_ok-op.ensures.base
    (omega (arith, ap length so_far.2, length-append so_far.0 c.loop-left.cursor, length-parts c.loop-left.cursor c.next.new.self (piece_units c.in-Ok.piece) c.in-Ok.ensures.parts, c.in_ok-op.ensures.out, c.len16-left.ensures.bounded)))
    c.in-Err-push.ensures.bad c.in-Err-push.ensures.only

pub loop-left-preserved : goal.loop-left-preserved
loop-left-preserved c =
    let so_far = c.loop-left.invariant.made in
    let more = piece_units c.in-Ok.piece in
    record {
      made = (
        so_far.0 ++ more,
        spelled_more so_far.0 more (so_far.0 ++ more) c.in_ok-op.op c.loop-left.builder c.push.new.self so_far.1 c.in_ok-op.ensures.units c.in_default.ensures.ok refl,
        append_assoc so_far.0 more c.next.new.self ∙ (ap (λ l. so_far.0 ++ l) c.in-Ok.ensures.parts ∙ so_far.2),
      );
      left = omega (arith, length-parts c.loop-left.cursor c.next.new.self more c.in-Ok.ensures.parts, c.units-left.ensures.units, c.loop-left.invariant.left);
    }

made : (c : After-finish) → c.finish.result ≡ nf (End c.args.self.now)
made c =
    let so_far = c.loop-left.invariant.made in
    let none = nil_from_length c.loop-left.cursor (omega (arith, c.loop-left.invariant.left, c.loop-left-test.false)) in
    let all : so_far.0 ≡ c.args.self.now = sym (append-nil so_far.0) ∙ (ap (λ l. so_far.0 ++ l) (sym none) ∙ so_far.2) in
    finished c.args.self.now c.loop-left.builder c.finish.result (so_far.1 ∙ ap (λ l. spelled (End l)) all) c.finish.ensures

pub returns-clause-delta : goal.returns-clause-delta
returns-clause-delta c = made c

pub returns-clause-inserts : goal.returns-clause-inserts
returns-clause-inserts c = finished_base c.args.self.now c.finish.result (made c)

pub returns-clause-back : goal.returns-clause-back
returns-clause-back c = finished_back c.args.self.now c.finish.result (made c)
