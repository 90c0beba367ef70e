-- Laws of `laws`, as the proofs of other crates cite them.
pub use Rattle.compose.proofs.Compositions.{apply-composed, composes_by_normal, composes_once}
pub use Rattle.compose.proofs.Inverses.{undone}
pub use Rattle.compose.proofs.DocumentCuts.{cuts_of_units, cuts_of_inserted}
pub use Rattle.compose.proofs.ManyDeltas.{defined-one}
