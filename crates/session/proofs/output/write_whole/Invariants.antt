use Rattle.std.proofs.Common.{◌≡◌, ◌++◌, ℕ, List}
use Rattle.std.specs.Io.KnownBytes.{Appends}
use Rattle.session.proofs.output.write_whole.Given as goal

-- what stands before the rest is written
abbrev pub invariant-tries : goal.invariant-tries
invariant-tries g l =
    (done : List ℕ) × (done ++ l.rest ≡ l.bytes) × Appends (g.W.Write.contents l.fn.writer) (g.W.Write.contents l.writer) done
