-- Some first batches, as first commands of the order.
use Rattle.std.proofs.Common.{◌≡◌, ◌≤◌, ℕ, List, ◌++◌, length, take, refl, sym, ◌∙◌, ap, subst, arith, length-append, length-take}
use Rattle.std.proofs.lemmas.List.{take_at, take-take}
use Rattle.revision.specs.Command.{Taken}
use Rattle.revision.specs.State.{State, fold}
use Rattle.recovery.specs.Found.{commands_of, FoundAs}
use Rattle.flusher.specs.Batches.{IsBeginning}
use Rattle.flusher.proofs.CallerLemmas.{commands-append}
use Rattle.lives.specs.Run.{IsFirst}

-- some first batches are some first commands of the order that they are of
pub is_first : (least : ℕ) (start : State) (order : List Taken) (batches : List (List Taken)) (count : ℕ) (content : List ℕ) → commands_of batches ≡ take count order
    → IsBeginning least start batches content → IsFirst least start order batches content
is_first least start order batches count content all is =
    let n = length (commands_of is.first) in
    let whole : commands_of is.first ++ commands_of is.more ≡ take count order = sym (commands-append is.first is.more) ∙ ap commands_of is.whole ∙ all in
    let fits : n ≤ length (take count order) = omega (arith, ap length whole, length-append (commands_of is.first) (commands_of is.more)) in
    let first : take n (take count order) ≡ commands_of is.first = ap (take n) (sym whole) ∙ take_at (commands_of is.first) (commands_of is.more) n refl in
    let ends : commands_of is.first ≡ take n order = sym first ∙ shorter order n count fits in
    record {
      count = n;
      enough = is.enough;
      within = within order n count fits;
      first = is.first;
      more = is.more;
      whole = is.whole;
      ends = ends;
      found = subst (λ (c : List Taken). FoundAs content (fold start c)) ends is.found;
    }
  where
    shorter : (order : List Taken) (n count : ℕ) → n ≤ length (take count order) → take n (take count order) ≡ take n order
    shorter order n count fits = take-take n count order (omega (arith, fits, length-take {A = Taken} count order))

    within : (order : List Taken) (n count : ℕ) → n ≤ length (take count order) → n ≤ length order
    within order n count fits = omega (arith, fits, length-take {A = Taken} count order)
