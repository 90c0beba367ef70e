use Rattle.std.proofs.Common.{◌≡◌, take}
use Rattle.revision.specs.Floors.{raised_each}
use Rattle.revision.proofs.past.state.State.copy_from.Given as goal

-- the copy has the documents so far
abbrev pub invariant-loop-number : goal.invariant-loop-number
invariant-loop-number l = l.copy.after ≡ record { limits = l.fn.self.limits; documents = take l.number (raised_each l.fn.floors l.fn.self.documents) }
