-- What a past keeps, as it continues and its floor rises.
use Rattle.std.proofs.Common.{ℕ, zero, suc, ◌≤◌, ◌^◌, List, [], ◌∷◌, ◌++◌, length, take, drop, arith}
use Rattle.std.specs.Prelude.{All}
use Rattle.std.proofs.lemmas.List.Elements.{All-nil, All-cons}
use Rattle.delta.specs.Element.{Element}
use Rattle.delta.specs.Operation.{Operation, base_of, out_of}
use Rattle.delta.specs.Gaps.{counted, apply}
use Rattle.delta.proofs.CallerLemmas.{units_below-counted}
use Rattle.document.specs.Outcome.{IsAccepted}
use Rattle.compose.specs.Many.{applied}
use Rattle.revision.specs.Late.{inserted_of, HasRoom}
use Rattle.revision.specs.Past.{StandInTurn, StayShort}
use Rattle.revision.proofs.Room.{inserted_stay, room_for_commands}
use Rattle.revision.proofs.Replays.{stand-take, stand-drop}

-- one delta more stands on what all before it leave
pub stand-more : (units : List Element) (deltas : List (List Operation)) (taken : List Operation) → StandInTurn units deltas
    → IsAccepted (applied units deltas) (counted taken) → StandInTurn units (deltas ++ taken ∷ [])
stand-more units [] taken stand accepted = (accepted, tt)
stand-more units (first ∷ others) taken stand accepted = (stand.0, stand-more (apply units (counted first)) others taken stand.1 accepted)

pub short-more : (units : List Element) (deltas : List (List Operation)) (taken : List Operation) → StayShort units deltas
    → length (apply (applied units deltas) (counted taken)) ≤ 2 ^ 29 → StayShort units (deltas ++ taken ∷ [])
short-more units [] taken short more = (short, more)
short-more units (first ∷ others) taken short more = (short.0, short-more (apply units (counted first)) others taken short.1 more)

pub short-drop : (n : ℕ) (units : List Element) (deltas : List (List Operation)) → StayShort units deltas → StayShort (applied units (take n deltas)) (drop n deltas)
short-drop zero units deltas short = short
short-drop (suc n) units [] short = short
short-drop (suc n) units (taken ∷ others) short = short-drop n (apply units (counted taken)) others short.1

pub short-first : (units : List Element) (deltas : List (List Operation)) → StayShort units deltas → length units ≤ 2 ^ 29
short-first units [] short = short
short-first units (taken ∷ others) short = short.0

-- no delta inserts more than the short document after it has
pub short-inserts : (units : List Element) (deltas : List (List Operation)) → StandInTurn units deltas → StayShort units deltas
    → All (λ taken. inserted_of taken ≤ 2 ^ 29) deltas
short-inserts units [] stand short = All-nil (λ (taken : List Operation). inserted_of taken ≤ 2 ^ 29)
short-inserts units (taken ∷ others) stand short =
    let after : List Element = apply units (counted taken) in
    let long : base_of taken ≤ length units = omega (arith, stand.0.0, units_below-counted taken) in
    let first : inserted_of taken ≤ 2 ^ 29 = omega (arith, inserted_stay units taken long, short-first after others short.1) in
    All-cons (λ (t : List Operation). inserted_of t ≤ 2 ^ 29) taken others first (short-inserts after others stand.1 short.1)

-- an edit of a command has room past some of the deltas
pub room-since : (units : List Element) (deltas : List (List Operation)) (edit : List Operation) → StandInTurn units deltas → StayShort units deltas
    → length deltas ≤ 65536 → base_of edit ≤ 2 ^ 44 → out_of edit ≤ 2 ^ 44 → HasRoom edit deltas
room-since units deltas edit stand short count base out = room_for_commands edit deltas base out count (short-inserts units deltas stand short)

pub short-take : (n : ℕ) (units : List Element) (deltas : List (List Operation)) → StayShort units deltas → StayShort units (take n deltas)
short-take zero units deltas short = short-first units deltas short
short-take (suc n) units [] short = short
short-take (suc n) units (taken ∷ others) short = (short.0, short-take n (apply units (counted taken)) others short.1)

-- those from the first to the last of some
pub stand-between : (n m : ℕ) (units : List Element) (deltas : List (List Operation)) → StandInTurn units deltas → StandInTurn (applied units (take n (take m deltas))) (drop n (take m deltas))
stand-between n m units deltas stand = stand-drop n units (take m deltas) (stand-take m units deltas stand)

pub short-between : (n m : ℕ) (units : List Element) (deltas : List (List Operation)) → StayShort units deltas → StayShort (applied units (take n (take m deltas))) (drop n (take m deltas))
short-between n m units deltas short = short-drop n units (take m deltas) (short-take m units deltas short)
