-- Promises about a crash at any moment of a run of device calls.
use Rattle.std.specs.Prelude.{◌≡◌, ℕ, ◌+◌, ◌-◌, List, ◌∷◌, ◌++◌, length, take, All, Any}
use Rattle.disk.specs.Device.{State, History, MayLeave, history}
use Rattle.disk.specs.declared.device.Disk.{Ghosts}

-- each content that a crash in this state may leave has P
abbrev pub LeavesIn : (List ℕ → Type 0) → State → Type 0
LeavesIn P state = (content : List ℕ) → MayLeave state content → P content

-- A crash at any moment of a run, which led from the old history to the new one, leaves a content that has P.
pub record Leaves (P : List ℕ → Type 0) (old new : History) : Type 0 where
  pub passed : List State
  pub since : new.past ≡ passed ++ old.past
  pub each : All (LeavesIn P) passed
  pub last : LeavesIn P new.now

-- The same by the clock: a crash at moment t or later might have left this content.
abbrev pub LeftSince : History → ℕ → List ℕ → Type 0
LeftSince now t content = Any (λ state. MayLeave state content) (take (length now.past + 1 - t) (now.now ∷ now.past))

module _ {D : Type 0} (disk : Ghosts D) where
  -- the history of a device
  abbrev pub history_of : D → History
  history_of d = history disk.seen disk.unsynced disk.past d

  -- A crash at any moment since the device was the old one leaves a content that has P.
  abbrev pub LeavesOnly : (List ℕ → Type 0) → D → D → Type 0
  LeavesOnly P old new = Leaves P (history_of old) (history_of new)

  -- what a crash now may leave
  abbrev pub MayLeaveNow : D → List ℕ → Type 0
  MayLeaveNow d = MayLeave (history_of d).now
