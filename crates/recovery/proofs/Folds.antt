-- Batches that are added to those before them.
use Rattle.std.proofs.Common.{◌≡◌, Bool, true, ◌&&◌, List, [], ◌∷◌, ◌++◌, refl, ◌∙◌, ap}
use Rattle.std.proofs.lemmas.Bool.{and_parts}
use Rattle.std.proofs.lemmas.List.{append-nil}
use Rattle.std.proofs.lemmas.List.Concat.{flat_map-append}
use Rattle.revision.specs.Command.{Taken}
use Rattle.revision.specs.State.{State, grows, grown, fold, all_grow, first_grows}
use Rattle.recovery.specs.Found.{commands_of}
pub use Rattle.revision.proofs.CallerLemmas.{limits-fold as fold-limits, fold-append}

pub and_assoc : (a b c : Bool) → a && (b && c) ≡ (a && b) && c
and_assoc Bool.true b c = refl
and_assoc Bool.false b c = refl

pub all_grow-append : (state : State) (first second : List Taken) → all_grow state (first ++ second) ≡ all_grow state first && all_grow (fold state first) second
all_grow-append state [] second = refl
all_grow-append state (t ∷ first) second = ap (λ b. grows state t && b) (all_grow-append (grown state t) first second) ∙ and_assoc (grows state t) (all_grow (grown state t) first) (all_grow (fold (grown state t) first) second)

pub commands-append : (first more : List (List Taken)) → commands_of (first ++ more) ≡ commands_of first ++ commands_of more
commands-append first more = flat_map-append (λ (b : List Taken). b) first more

pub commands_of-push : (batches : List (List Taken)) (commands : List Taken) → commands_of (batches ++ commands ∷ []) ≡ commands_of batches ++ commands
commands_of-push batches commands = flat_map-append (λ (c : List Taken). c) batches (commands ∷ []) ∙ ap (λ (l : List Taken). commands_of batches ++ l) (append-nil commands)

-- where all commands continue a state, the first one does
pub first_of_all : (state : State) (commands : List Taken) → all_grow state commands ≡ true → first_grows state commands ≡ true
first_of_all state [] all = refl
first_of_all state (t ∷ commands) all = (and_parts (grows state t) (all_grow (grown state t) commands) all).0
