use Rattle.recovery.specs.Open.{state_of}
use Rattle.test_hub.proofs.seats.seats_are_given_until_none_is_left.Given as goal

abbrev pub ghosts-two_seats-L-Life : goal.ghosts-two_seats-L-Life
ghosts-two_seats-L-Life g a = record { book = a.opened; start = state_of a.store }

abbrev pub ghosts-two_seats-L-Ledger : goal.ghosts-two_seats-L-Ledger
ghosts-two_seats-L-Ledger g a = record { name = a.blank.name; parts = a.blank.parts }
