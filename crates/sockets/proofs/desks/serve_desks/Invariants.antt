use Rattle.sockets.proofs.desks.serve_desks.Given as goal

-- the ledger of those who come
abbrev pub ghosts-serve_counted : goal.ghosts-serve_counted
ghosts-serve_counted g a = record { name = a.blank.name; parts = a.blank.parts }
