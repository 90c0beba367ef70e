use Rattle.sockets.specs.Host.{number_read}
use Rattle.sockets.proofs.connection.serve_peer.Given as goal

-- the conversation is named by its connection and by the hall
abbrev pub ghosts-serve_halves : goal.ghosts-serve_halves
ghosts-serve_halves g a = record { connection = number_read a.reader; hall = a.hall.now.ended.id }
