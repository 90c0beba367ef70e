-- Both lists after a step, and why a step is refused.
use Rattle.std.proofs.Common.{◌≡◌, ℕ, ◌+◌, ◌<◌, ◌≤◌, ◌^◌, ◌⊎◌, ⊎_elim, inl, inr, Bool, true, false, List, [], ◌++◌, refl, sym, ap, subst, ◌∙◌, arith}
use Rattle.std.proofs.lemmas.Bool.{ltb-true, ltb-false}
use Rattle.std.proofs.lemmas.List.{append-nil}
use Rattle.std.specs.Prelude.{nat_lt}
use Rattle.delta.specs.Operation.{Operation, base_of, out_of, IsBounded}
use Rattle.delta.specs.Gaps.{Gaps, counted, joined}
use Rattle.delta.specs.Normal.{IsNormal, built, settled, trimmed, spelled, nf}
use Rattle.delta.proofs.CallerLemmas.{front-nil, joined-joined, counted-append, counted-spelled, settled-joined, shortest-joined, base_of-append, out_of-append, lengths-built, IsBounded-nf, none_empty-normal}
use Rattle.xform.specs.After.{after, second_past}
use Rattle.xform.specs.Outcome.{CanTransform}
use Rattle.xform.specs.steps.Stepping.{IsStep, StandsFor, IsPartlyMade}
use Rattle.xform.proofs.Heads.{nothing_after}

-- a built form represents its operations
pub stands-built : (ops now : List Operation) → now ≡ built ops → StandsFor now ops
stands-built ops now is = rw is (record {
  same = λ g. ap (λ h. settled (joined h g)) (counted-spelled (settled (counted ops))) ∙ settled-joined (counted ops) g;
  base = (lengths-built ops).0;
  out = (lengths-built ops).1;
})

-- the same list, by its first operation
pub second_as : {first second a b l made : List Operation} {priority : Bool} → b ≡ l → IsPartlyMade first second priority a b made → IsPartlyMade first second priority a l made
second_as {first = first} {second = second} {a = a} {made = made} {priority = priority} is = subst (λ l. IsPartlyMade first second priority a l made) is

-- a step on
module _ {first second a b made ops a2 b2 : List Operation} {priority : Bool} (partly : IsPartlyMade first second priority a b made) (step : IsStep a b ops a2 b2 priority) where
  -- with what it makes, all settles to the same
  with_made : settled (joined (counted (made ++ ops)) (after (counted a2) (counted b2) priority)) ≡ settled (after (counted first) (counted second) priority)
  with_made =
      ap (λ g. settled (joined g (after (counted a2) (counted b2) priority))) (counted-append made ops)
      ∙ (ap settled (joined-joined (counted made) (counted ops) (after (counted a2) (counted b2) priority))
      ∙ (ap (λ g. settled (joined (counted made) g)) (sym step.same) ∙ partly.same))

  pub partly-next : (now : List Operation) → StandsFor now (made ++ ops) → IsPartlyMade first second priority a2 b2 now
  partly-next now stands = record {
    same = stands.same (after (counted a2) (counted b2) priority) ∙ with_made;
    first_some = step.first_some partly.first_some;
    second_some = step.second_some partly.second_some;
    base = omega (arith, stands.base, base_of-append made ops, step.base, partly.base);
    out = omega (arith, stands.out, out_of-append made ops, step.out, partly.out);
    room = partly.room;
  }

  -- where what it makes never stays within the bound, the whole doesn't
  pub passed-next : ((more : Gaps) → ¬ (IsBounded (nf (joined (counted (made ++ ops)) more)))) → ¬ (CanTransform first second priority)
  passed-next never bounded =
      never (after (counted a2) (counted b2) priority) (subst (λ g. IsBounded (spelled (trimmed g))) (sym (with_made)) bounded)

  -- and the lengths of both lists pass it too
  long_or_bounded : (n : ℕ) → (2 ^ 48 < n) ⊎ (n ≤ 2 ^ 48)
  long_or_bounded n =
      elim (nat_lt (2 ^ 48) n) as (λ t. nat_lt (2 ^ 48) n ≡ t → (2 ^ 48 < n) ⊎ (n ≤ 2 ^ 48)) [
        | true ↦ λ e. inl (ltb-true (2 ^ 48) n e)
        | false ↦ λ e. inr (ltb-false (2 ^ 48) n e)
      ] refl

  pub long-next : ((more : Gaps) → ¬ (IsBounded (nf (joined (counted (made ++ ops)) more))))
      → 2 ^ 48 < base_of first + out_of first + base_of second + out_of second
  long-next never =
      ⊎_elim (λ long. long) (λ short.
      let bounded : IsBounded (made ++ ops) = record {
        base = omega (arith, base_of-append made ops, step.base, partly.base, short);
        out = omega (arith, out_of-append made ops, step.out, partly.out, short);
      } in
      let nothing : joined (counted (made ++ ops)) (counted []) ≡ counted (made ++ ops) = sym (counted-append (made ++ ops) []) ∙ ap counted (append-nil (made ++ ops)) in
      absurd (never (counted []) (subst (λ g. IsBounded (nf g)) (sym nothing) (IsBounded-nf (made ++ ops) bounded))))
      (long_or_bounded (base_of first + out_of first + base_of second + out_of second))

-- at the end
pub partly-end : {first second a b made : List Operation} {priority : Bool} → IsPartlyMade first second priority a b made → b ≡ [] → nf (counted made) ≡ second_past first second priority
partly-end {a = a} {b = b} {made = made} {priority = priority} partly done =
    let last = nothing_after (counted a) priority in
    sym (ap spelled
    (ap trimmed (sym partly.same)
    ∙ (ap (λ l. trimmed (settled (joined (counted made) (after (counted a) (counted l) priority)))) done
    ∙ (ap (λ g. trimmed (settled (joined (counted made) g))) last.1 ∙ shortest-joined (counted made) last.0))))

-- at the start
pub partly-start : (first second : List Operation) (priority : Bool) → IsNormal first → IsNormal second → IsBounded first → IsBounded second → IsPartlyMade first second priority first second []
partly-start first second priority normal_first normal_second bounded_first bounded_second = record {
  same = ap settled (front-nil (after (counted first) (counted second) priority));
  first_some = none_empty-normal first normal_first;
  second_some = none_empty-normal second normal_second;
  base = omega arith;
  out = omega arith;
  room = omega (arith, bounded_first.out, bounded_second.base);
}
