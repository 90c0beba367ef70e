use Rattle.server.proofs.program.invoke.Goals as goal

pub returns-in-Info-clause-keeps : goal.returns-in-Info-clause-keeps
returns-in-Info-clause-keeps g c = rw c.in-Info.is c.tell_of_store-output.ensures.kept
