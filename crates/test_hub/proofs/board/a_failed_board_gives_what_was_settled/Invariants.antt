use Rattle.recovery.specs.Open.{state_of}
use Rattle.test_hub.proofs.board.a_failed_board_gives_what_was_settled.Given as goal

abbrev pub ghosts-lived-L-Life : goal.ghosts-lived-L-Life
ghosts-lived-L-Life g a = record { book = a.opened; start = state_of a.store }

abbrev pub ghosts-lived-L-Ledger : goal.ghosts-lived-L-Ledger
ghosts-lived-L-Ledger g a = record { name = a.blank.name; parts = a.blank.parts }
