-- What commands make of a state, one after another.
use Rattle.std.proofs.Common.{◌≡◌, List, [], ◌∷◌, ◌++◌, refl}
use Rattle.revision.specs.Command.{Taken}
use Rattle.revision.specs.State.{State, grown, fold}

-- commands in turn make what the later ones make of what the first have made
pub fold-append : (state : State) (first others : List Taken) → fold state (first ++ others) ≡ fold (fold state first) others
fold-append state [] others = refl
fold-append state (taken ∷ first) others = fold-append (grown state taken) first others

-- and they leave the limits
pub limits-fold : (state : State) (commands : List Taken) → (fold state commands).limits ≡ state.limits
limits-fold state [] = refl
limits-fold state (taken ∷ others) = limits-fold (grown state taken) others
