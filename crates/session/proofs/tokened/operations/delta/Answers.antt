use Rattle.std.proofs.Common.{◌≡◌, List, ◌++◌, [], ◌∷◌, Some, None, sym, subst, arith}
use Rattle.json.specs.Json.{after_end_array}
use Rattle.refusal.specs.declared.Refusal.TheVariants.{BadOps}
use Rattle.delta.specs.Operation.{Operation, IsBounded}
use Rattle.delta.specs.Normal.{built}
use Rattle.optext.proofs.Deltas.{bounded_from}
use Rattle.session.proofs.Arrays.{Completes, no_item_yet, item_more, items_end}
use Rattle.attributes.proofs.CallerLemmas.{IfSome-map}
use Rattle.session.proofs.ScalarTokens.{kept, some_kept, not_refused}
use Rattle.session.proofs.tokened.operations.delta.Goals as goal

pub loop-init : goal.loop-init
loop-init c =
    record {
      bounded = subst IsBounded (sym c.new-builder.ensures) (record { base = omega arith; out = omega arith });
      completes = subst (λ (l : List Operation). Completes 2 c.begin_array.new.reader l 0 c.begin_array.new.reader) (sym c.new-builder.ensures) (no_item_yet 2 c.begin_array.new.reader);
    }

pub returns-then-take_end_array : goal.returns-then-take_end_array
returns-then-take_end_array c =
    let ends : after_end_array c.loop.reader ≡ Some c.take_end_array.new.self = grind arith in
    let built = items_end 2 c.begin_array.new.reader c.loop.reader c.take_end_array.new.self c.loop.builder c.loop.counter c.loop.invariant.completes (omega (arith, c.loop.auto.counter-end)) c.loop.invariant.bounded ends in
    IfSome-map (λ (d : List Operation). d ≡ c.finish.result) _ c.ok.result
    (λ d is. rw (is, c.finish.ensures, c.in_ok-begin_array.ensures) built)
    (some_kept (λ (d : List Operation). d ≡ c.finish.result) c.share.result c.ok.result c.ok.ensures.value c.share.ensures.same)

pub loop-preserved : goal.loop-preserved
loop-preserved c =
    let within : IsBounded (c.loop.builder ++ c.in_ok-op.op ∷ []) = bounded_from _ (λ over. not_refused c.push.result c.in_ok-ok.field-0 BadOps c.in_ok-ok.ensures.value (c.push.ensures.bad.1 over)) in
    let going : (after_end_array c.loop.reader ≡ None) × (c.take_end_array.new.self ≡ c.loop.reader) = grind arith in
    let pushed : c.push.new.self ≡ built (c.loop.builder ++ c.in_ok-op.op ∷ []) =
    kept (λ _. c.push.new.self ≡ built (c.loop.builder ++ c.in_ok-op.op ∷ [])) c.push.result c.in_ok-ok.field-0 c.in_ok-ok.ensures.value c.push.ensures.ok in
    record {
      bounded = subst IsBounded (sym pushed) (c.bound_of_built.ensures (c.loop.builder ++ c.in_ok-op.op ∷ []) within);
      completes = rw pushed (item_more c.built_in_pieces.ensures c.normal_of_built.ensures c.lengths_of_built.ensures 2 c.begin_array.new.reader c.loop.reader c.operation.new.reader c.loop.builder c.loop.counter c.in_ok-op.op
          c.loop.invariant.completes going.0 (rw (← going.1) c.in_ok-op.ensures));
    }
