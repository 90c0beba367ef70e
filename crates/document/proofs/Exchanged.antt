-- What goes of a document's weight by operations, and what comes to it.
use Rattle.std.proofs.Common.{◌≡◌, ℕ, ◌+◌, ◌-◌, ◌^◌, ◌<◌, ◌≤◌, min, List, [], ◌∷◌, ◌++◌, length, refl, sym, ap, subst, ◌∙◌, arith, append-nil, length-append, append_assoc}
use Rattle.attributes.specs.Map.{empty}
use Rattle.delta.specs.Element.{Element}
use Rattle.delta.specs.Gaps.{counted, apply}
use Rattle.delta.specs.Operation.{Operation, retain, op_base, base_of}
use Rattle.delta.proofs.CallerLemmas.{base_of-append, effect_of_parts, effect_past_end, effect_of_retain}
use Rattle.document.specs.Weight.{weight_of}
use Rattle.document.specs.steps.Passes.{IsSteppedOver, with_change}
use Rattle.document.specs.steps.Weighing.{IsRetainedWeighed, IsWeighed, IsExchanged}
use Rattle.document.proofs.Progress.{kept_same}
use Rattle.document.proofs.Weighing.{weight_of-append}

-- the units that are taken are told by how many they are
same_taken : (a b c d : List Element) → a ++ c ≡ b ++ d → length a ≡ length b → a ≡ b
same_taken [] [] c d e count = refl
same_taken [] (y ∷ b) c d e count = absurd (omega (arith, count))
same_taken (x ∷ a) [] c d e count = absurd (omega (arith, count))
same_taken (x ∷ a) (y ∷ b) c d e count =
    let first : x ≡ y = cc in
    let rest : a ++ c ≡ b ++ d = cc in
    ap (λ z. z ∷ a) first ∙ ap (λ l. y ∷ l) (same_taken a b c d rest (omega (arith, count)))

-- what stays as it is
pub exchanged_kept : (old new : List Element) (n : ℕ) (op : Operation) → op ≡ retain n empty → IsSteppedOver old new n → IsExchanged old new (op ∷ []) 0 0
exchanged_kept old new n op is passed =
    let taken = passed.taken in
    let same : apply taken (counted (retain n empty ∷ [])) ≡ taken =
    ap (λ d. apply d (counted (retain n empty ∷ []))) (sym (append-nil taken))
    ∙ (effect_of_retain taken [] n empty [] (sym passed.count) ∙ (append-nil (with_change empty taken) ∙ kept_same taken)) in
    subst (λ o. IsExchanged old new (o ∷ []) 0 0) (sym is) (record {
      taken = taken;
      parts = passed.parts;
      count = omega (arith, passed.count);
      stays = weight_of taken;
      more = 0;
      before = omega arith;
      after = omega (arith, ap weight_of same);
      comes_to = refl;
    })

-- what is taken away, and what is made of it
pub exchanged_made : (old mid new : List Element) (op : Operation) (n goes comes : ℕ) → weight_of old < 2 ^ 64 - 1 → n ≡ op_base op
    → IsRetainedWeighed old mid n empty goes → IsWeighed old new (op ∷ []) comes → IsExchanged old new (op ∷ []) goes comes
exchanged_made old mid new op n goes comes bound base passed made =
    let same : passed.passed.taken ≡ made.taken =
    same_taken passed.passed.taken made.taken mid new (sym passed.passed.parts ∙ made.parts) (omega (arith, passed.passed.count, made.count, base)) in
    record {
      taken = made.taken;
      parts = made.parts;
      count = made.count;
      stays = 0;
      more = weight_of (apply made.taken (counted (op ∷ [])));
      before =
          omega (
            arith,
            passed.weighs,
            ap weight_of (kept_same passed.passed.taken ∙ same),
            ap weight_of made.parts,
            weight_of-append made.taken new,
            bound,
          );
      after = omega arith;
      comes_to = made.weighs;
    }

-- one operation more, and all with what stands behind them
pub exchanged_more : (old mid new : List Element) (ops all : List Operation) (op : Operation) (goes comes less more total : ℕ)
    → IsExchanged old mid ops goes comes → IsExchanged mid new (op ∷ []) less more → all ≡ ops ++ op ∷ [] → total ≡ min (comes + more) (2 ^ 64 - 1)
    → IsExchanged old new all (goes + less) total
exchanged_more old mid new ops all op goes comes less more total first next e sum =
    let effect = effect_of_parts first.taken next.taken ops (op ∷ []) (sym first.count) in
    subst (λ l. IsExchanged old new l (goes + less) total) (sym e) (record {
      taken = first.taken ++ next.taken;
      parts = first.parts ∙ (ap (λ l. first.taken ++ l) next.parts ∙ sym (append_assoc first.taken next.taken new));
      count = omega (arith, length-append first.taken next.taken, first.count, next.count, base_of-append ops (op ∷ []));
      stays = first.stays + next.stays;
      more = first.more + next.more;
      before = omega (arith, first.before, next.before, weight_of-append first.taken next.taken);
      after =
          omega (
            arith,
            first.after,
            next.after,
            ap weight_of effect,
            weight_of-append (apply first.taken (counted ops)) (apply next.taken (counted (op ∷ []))),
          );
      comes_to = omega (arith, sum, first.comes_to, next.comes_to);
    })

pub exchanged_whole : (old rest : List Element) (ops : List Operation) (goes comes weight total : ℕ) → IsExchanged old rest ops goes comes → weight ≡ weight_of old
    → total ≡ min (weight - goes + comes) (2 ^ 64 - 1) → total ≡ min (weight_of (apply old (counted ops))) (2 ^ 64 - 1)
exchanged_whole old rest ops goes comes weight total done weighs sum =
    let effect : apply old (counted ops) ≡ apply done.taken (counted ops) ++ rest =
    ap (λ d. apply d (counted ops)) done.parts ∙ effect_past_end done.taken rest ops (omega (arith, done.count)) in
    omega (
      arith,
      sum,
      weighs,
      done.before,
      done.after,
      done.comes_to,
      ap weight_of done.parts,
      weight_of-append done.taken rest,
      ap weight_of effect,
      weight_of-append (apply done.taken (counted ops)) rest,
    )

-- no more goes than was taken, and the rest of the document weighs no more than the whole
pub rest_within : (old new : List Element) (ops : List Operation) (goes comes : ℕ) → IsExchanged old new ops goes comes → goes + weight_of new ≤ weight_of old
rest_within old new ops goes comes done = omega (arith, done.before, ap weight_of done.parts, weight_of-append done.taken new)

-- how long the rest of the document is
pub length_ahead : (old new : List Element) (ops : List Operation) (goes comes : ℕ) → IsExchanged old new ops goes comes → length old ≡ base_of ops + length new
length_ahead old new ops goes comes done = omega (arith, ap length done.parts, length-append done.taken new, done.count)
