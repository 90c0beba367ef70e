-- Who came.
use Rattle.std.specs.Prelude.{◌≡◌, ◌+◌, ℕ, true, false, List, [], ◌∷◌, length, map}
use Rattle.sockets.specs.declared.attendance.Attendance.{Attendance}
use Rattle.sockets.specs.declared.raw.Visit.{Visit}
use Rattle.sockets.specs.declared.raw.visits.Visits.{Visits}
use Rattle.sockets.specs.Host.{are_unasked}
use Rattle.sockets.specs.Socket.{Event, came, HasFailedSince}

-- the visits of each desk, and of those who were turned away
abbrev pub lists_of : List Visits → List (List Visit)
lists_of visits = map (λ (one : Visits). one.list) visits

abbrev pub visits_of : Attendance → List (List Visit)
visits_of attendance = lists_of attendance.visits.items

abbrev pub turned_away_of : Attendance → List Visit
turned_away_of attendance = attendance.turned_away.list

-- nobody came
abbrev pub IsOfNobody : Attendance → Type 0
IsOfNobody attendance = (visits_of attendance ≡ []) × (turned_away_of attendance ≡ []) × (attendance.is_complete ≡ false)

-- how many visits these are together
abbrev pub count_all : List (List Visit) → ℕ
count_all [] = 0
count_all (visits ∷ others) = length visits + count_all others

-- Between these calls of a listener these came. Of those who were turned away nothing was read, and nothing was written to them. Where it
-- is told to be complete, they are as many as came by the listener's calls, and the newest of these failed.
pub record IsAttended (old new : List Event) (attendance : Attendance) : Type 0 where
  pub unasked : are_unasked (turned_away_of attendance) ≡ true
  pub all : attendance.is_complete ≡ true → came new ≡ came old + (count_all (visits_of attendance) + length (turned_away_of attendance))
  pub failed : attendance.is_complete ≡ true → HasFailedSince old new
