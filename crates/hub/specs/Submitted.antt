-- What a seat has counted after submissions, each with its ticket or why it was refused.
use Rattle.std.specs.Prelude.{ℕ, List, [], ◌∷◌, Result, Ok, Err}
use Rattle.world.specs.Progress.{Ticket}
use Rattle.hub.specs.Legal.{counted}

module _ {E : Type 0} where
  -- how many commands a seat has counted after a submission
  abbrev pub counted_by : ℕ → Result Ticket E → ℕ
  counted_by count (Ok ticket) = counted count ticket.reply
  counted_by count (Err why) = count

  abbrev pub counted_all : ℕ → List (Result Ticket E) → ℕ
  counted_all count [] = count
  counted_all count (first ∷ others) = counted_all (counted_by count first) others
