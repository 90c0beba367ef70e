-- How many came, how many are accounted for, and whether one more is let in.
use Rattle.std.specs.Prelude.{◌≡◌, ◌⊎◌, ◌&&◌, ℕ, List, Bool, false, not, nat_lt}
use Rattle.sockets.specs.declared.door.Door.{Door}
use Rattle.sockets.specs.Socket.{Event, HasFailed}

-- how many got a part
abbrev pub taken_in : {G : Type 0} → Door G → ℕ
taken_in door = door.book.total

-- for how many visits a part came back
abbrev pub accounted_for : {G : Type 0} → Door G → ℕ
accounted_for door = door.share.amount

-- one more is let in: the door isn't shut, and there is a part for one more, and one that is left then
abbrev pub lets_in : {G : Type 0} → Door G → Bool
lets_in door = not door.is_shut && nat_lt 1 door.left

-- After these calls of its listener a door may be shut: the newest failed, or it lets nobody in, or nobody came by it.
abbrev pub MayBeShut : {G : Type 0} → List Event → Door G → Type 0
MayBeShut events door = HasFailed events ⊎ (lets_in door ≡ false) ⊎ (taken_in door ≡ 0)
