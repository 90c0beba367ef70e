-- A command that continues a state fits a slot alone.
use Rattle.std.proofs.Common.{◌≡◌, ℕ, true, Option, Some, None, List, [], ◌∷◌, arith}
use Rattle.std.specs.Prelude.{nat_le, slice_get}
use Rattle.std.proofs.lemmas.Bool.{and_parts, leb-true}
use Rattle.attributes.specs.Map.{empty}
use Rattle.revision.specs.Command.{Taken, width_of}
use Rattle.revision.specs.State.{Limits, DocumentRecord, State, keeps, units_of, sources_of, continues, continues_by_name, has_room, grows}
use Rattle.recovery.specs.Open.{FitsSlot}

width_kept : (limits : Limits) (found : Option DocumentRecord) (taken : Taken) (name : Option (List ℕ)) → continues_by_name limits found taken name ≡ true → nat_le (width_of taken) limits.width ≡ true
width_kept limits None taken None is = absurd cc
width_kept limits None taken (Some name) is = (and_parts _ (nat_le (width_of taken) limits.width) (and_parts _ (keeps limits [] empty taken) is).1).1
width_kept limits (Some found) taken None is = (and_parts _ (nat_le (width_of taken) limits.width) (and_parts _ (keeps limits (units_of found) (sources_of found) taken) is).1).1
width_kept limits (Some found) taken (Some name) is = absurd cc

pub one_fits : (state : State) (taken : Taken) → grows state taken ≡ true → FitsSlot state (taken ∷ [])
one_fits state taken is =
    let there = (and_parts (has_room state taken.document taken.name) (continues state.limits (slice_get state.documents taken.document) taken) is).1 in
    let wide = leb-true _ _ (width_kept state.limits (slice_get state.documents taken.document) taken taken.name there) in
    omega (arith, wide)
