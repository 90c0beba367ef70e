use Rattle.revision.proofs.past.noting.add_to.Goals as goal

pub prepare-requires-clause-suits : goal.prepare-requires-clause-suits
prepare-requires-clause-suits c = rw c.prune.ensures c.requires.suits

pub prepare-requires-clause-leads : goal.prepare-requires-clause-leads
prepare-requires-clause-leads c = rw c.prune.ensures c.requires.leads

pub prepare-requires-clause-accepted : goal.prepare-requires-clause-accepted
prepare-requires-clause-accepted c = rw c.prune.ensures c.requires.accepted
