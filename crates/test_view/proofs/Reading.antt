-- A read takes nothing back that was seen.
use Rattle.std.proofs.Common.{◌≡◌, List, sym, subst}
use Rattle.std.specs.Prelude.{Result, Ok, Err, OnOk, OnErr}
use mathlib.Core.List.{IsPrefix}
use Rattle.revision.specs.Command.{Taken}
use Rattle.revision.specs.State.{State}
use Rattle.published.proofs.CallerLemmas.{prefix_trans}
use Rattle.view.specs.Publishing.{ReadsOn}

-- what begins that begins what is seen once it is read
pub read_keeps : {A E : Type 0} (start : State) (first old new : List (List Taken)) (answer : Result A E) → OnOk answer (ReadsOn start old new) → OnErr answer (new ≡ old)
    → IsPrefix first old → IsPrefix first new
read_keeps start first old new (Ok a) seen same begins = prefix_trans first old new begins seen.kept
read_keeps start first old new (Err e) seen same begins = subst (IsPrefix first) (sym same) begins
