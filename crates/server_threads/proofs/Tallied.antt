-- Seats and desks, one more at a time.
use Rattle.std.proofs.Common.{◌≡◌, ℕ, ◌+◌, List, [], ◌∷◌, ◌++◌, length, length-append, append-nil, sym, ◌∙◌, ap, subst, arith}
use Rattle.std.specs.Prelude.{All, sum_by}
use Rattle.std.proofs.lemmas.List.Elements.{All-head, All-push, All-tail, All-weaker}
use Rattle.std.proofs.lemmas.List.Sums.{sum_by-append}
use mathlib.Core.List.{IsPrefix}
use Rattle.revision.specs.Command.{Taken}
use Rattle.world.specs.World.{Entry}
use Rattle.published.proofs.CallerLemmas.{prefix_trans}
use Rattle.hub_desk.specs.AtHub.{Desk}
use Rattle.server_threads.specs.Answers.{first_desk}
pub use Rattle.server_threads.proofs.Served.{order_begins as begins_longer}

-- one seat more is tallied
pub one_seat_more : (before at after : ℕ) (desks : List Desk) (desk : Desk) → at ≡ before + length desks → after ≡ at + 1
    → after ≡ before + length (desks ++ desk ∷ [])
one_seat_more before at after desks desk so_far more = omega (arith, so_far, more, length-append desks (desk ∷ []))

pub one_count_more : (before at after : ℕ) (desks : List Desk) (desk : Desk) → at ≡ before + sum_by (λ (d : Desk). d.counted) desks → after ≡ at + desk.counted
    → after ≡ before + sum_by (λ (d : Desk). d.counted) (desks ++ desk ∷ [])
one_count_more before at after desks desk so_far more =
    let joined : sum_by (λ (d : Desk). d.counted) (desks ++ desk ∷ []) ≡ sum_by (λ (d : Desk). d.counted) desks + sum_by (λ (d : Desk). d.counted) (desk ∷ []) =
    sum_by-append (λ (d : Desk). d.counted) desks (desk ∷ []) in
    omega (arith, so_far, more, joined)

-- what desks were told of, and what they found, also begins what is longer
pub told_longer : (before after : List (List Taken)) (desks : List Desk) → IsPrefix before after → All (λ (d : Desk). IsPrefix d.told before) desks
    → All (λ (d : Desk). IsPrefix d.told after) desks
told_longer before after desks longer =
    All-weaker (λ (d : Desk). IsPrefix d.told before) (λ (d : Desk). IsPrefix d.told after) (λ d first. prefix_trans d.told before after first longer) desks

pub found_longer : (before after : List Entry) (desks : List Desk) → IsPrefix before after → All (λ (d : Desk). IsPrefix d.found before) desks
    → All (λ (d : Desk). IsPrefix d.found after) desks
found_longer before after desks longer =
    All-weaker (λ (d : Desk). IsPrefix d.found before) (λ (d : Desk). IsPrefix d.found after) (λ d first. prefix_trans d.found before after first longer) desks

-- one desk more was told of no more than a token has, which has no less than before
pub one_told_more : (before after : List (List Taken)) (desks : List Desk) (desk : Desk) → All (λ (d : Desk). IsPrefix d.told before) desks → IsPrefix before after
    → IsPrefix desk.told after → All (λ (d : Desk). IsPrefix d.told after) (desks ++ desk ∷ [])
one_told_more before after desks desk so_far longer told =
    All-push (λ (d : Desk). IsPrefix d.told after) desks desk (told_longer before after desks longer so_far) told

-- one desk more found no more of the order than a token has, which has no less than before
pub one_found_more : (before after : List Entry) (desks : List Desk) (desk : Desk) → All (λ (d : Desk). IsPrefix d.found before) desks → IsPrefix before after
    → IsPrefix desk.found after → All (λ (d : Desk). IsPrefix d.found after) (desks ++ desk ∷ [])
one_found_more before after desks desk so_far longer found =
    All-push (λ (d : Desk). IsPrefix d.found after) desks desk (found_longer before after desks longer so_far) found

-- what holds of all desks that were yielded holds of all, where none is left
pub all_yielded : {A : Type 0} (P : A → Type 0) (yielded rest all : List A) → yielded ++ rest ≡ all → rest ≡ [] → All P yielded → All P all
all_yielded {A} P yielded rest all whole none so_far =
    subst (λ (l : List A). All P l) (sym (append-nil yielded) ∙ (ap (λ (l : List A). yielded ++ l) (sym none) ∙ whole)) so_far

-- a seat that has counted nothing stands first of those that are left, and the others have counted nothing
pub next_seat : (seats rest : List ℕ) (seat : ℕ) → seats ≡ seat ∷ rest → All (λ (s : ℕ). s ≡ 0) seats → (seat ≡ 0) × All (λ (s : ℕ). s ≡ 0) rest
next_seat seats rest seat is none =
    let all : All (λ (s : ℕ). s ≡ 0) (seat ∷ rest) = subst (λ (l : List ℕ). All (λ (s : ℕ). s ≡ 0) l) is none in
    (All-head (λ (s : ℕ). s ≡ 0) seat rest all, All-tail (λ (s : ℕ). s ≡ 0) seat rest all)

-- a desk more, at its beginning
pub one_desk_more : (desks more : List Desk) (desk : Desk) → more ≡ desks ++ desk ∷ [] → desk ≡ first_desk → All (λ (d : Desk). d ≡ first_desk) desks
    → All (λ (d : Desk). d ≡ first_desk) more
one_desk_more desks more desk is first so_far =
    subst (λ (l : List Desk). All (λ (d : Desk). d ≡ first_desk) l) (sym is) (All-push (λ (d : Desk). d ≡ first_desk) desks desk so_far first)

-- each seat has its desk, or is tallied
pub seat_with_desk : (desks more : List Desk) (desk : Desk) (seats rest : List ℕ) (seat tallied all : ℕ) → more ≡ desks ++ desk ∷ [] → seats ≡ seat ∷ rest
    → length desks + (tallied + length seats) ≡ all → length more + (tallied + length rest) ≡ all
seat_with_desk desks more desk seats rest seat tallied all is next so_far =
    omega (arith, so_far, ap (λ (l : List Desk). length l) is, length-append desks (desk ∷ []), ap (λ (l : List ℕ). length l) next)

pub seat_tallied : (desks : List Desk) (seats rest : List ℕ) (seat tallied after all : ℕ) → after ≡ tallied + 1 → seats ≡ seat ∷ rest
    → length desks + (tallied + length seats) ≡ all → length desks + (after + length rest) ≡ all
seat_tallied desks seats rest seat tallied after all more next so_far = omega (arith, so_far, more, ap (λ (l : List ℕ). length l) next)

-- nothing more is counted by a seat that has counted nothing
pub none_counted : (counted after seat before : ℕ) → after ≡ counted + seat → seat ≡ 0 → counted ≡ before → after ≡ before
none_counted counted after seat before more none so_far = omega (arith, more, none, so_far)

pub from_nothing : (before after sum : ℕ) → before ≡ 0 → after ≡ before + sum → after ≡ sum
from_nothing before after sum none more = omega (arith, none, more)
