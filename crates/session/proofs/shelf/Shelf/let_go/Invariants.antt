use Rattle.std.proofs.Common.{◌≡◌, map}
use Rattle.revision.specs.State as spec
use Rattle.session.specs.Shelf.{Fits}
use Rattle.session.proofs.Shelved.{kept_of}
use Rattle.session.proofs.shelf.Shelf.let_go.Given as goal

-- what is still there fits what fitted
abbrev pub invariant-loop : goal.invariant-loop
invariant-loop l = record {
  fits : (state : spec.State) → Fits state l.fn.self → Fits state (map kept_of l.self-inside.documents.entries);
  places : l.self-inside.documents.cap ≡ 64;
}
