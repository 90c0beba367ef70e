use Rattle.std.proofs.Common.{◌≡◌, ◌∙◌, ◌++◌, List, ℕ, Some, sym}
use Rattle.session.specs.Output.{AppendsFront}
use Rattle.session.proofs.CallerLemmas.{front-of, on_err}
use Rattle.sockets.specs.Outgoing.{contents_of}
use Rattle.sockets.proofs.outgoing.OutgoingOutput.put.Goals as goal

-- what stands in front of the rest was written or held back, and no more
front_so_far : (old mid new bytes rest : List ℕ) → (done : List ℕ) × (bytes ≡ done ++ rest) × (mid ≡ old ++ done) → new ≡ mid
    → AppendsFront (Some old) (Some new) bytes
front_so_far old mid new bytes rest (done, whole, at) kept = front-of (Some old) (Some new) done rest bytes (sym whole) (kept ∙ at)

pub returns-in_err-count-clause-front : goal.returns-in_err-count-clause-front
returns-in_err-count-clause-front g c =
    on_err c.from_residual.result
    (front_so_far (contents_of c.args.self.now) (contents_of c.loop-rest.self) (contents_of c.hold_some.new.self) c.args.bytes.now c.loop-rest.rest.now
    c.loop-rest.invariant.front c.in_err-count.ensures.kept)
