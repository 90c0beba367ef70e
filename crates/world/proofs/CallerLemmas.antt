-- Laws of `laws`, and lemmas that several crates share, as the proofs of other crates cite them.
pub use Rattle.world.proofs.Showing.{shown-fold, fold_shown-append}
pub use Rattle.world.proofs.Histories.{placed-take, made_below}
pub use Rattle.world.proofs.Standing.{stands-take}
pub use Rattle.world.proofs.Holding.{begun-holds, run-holds}
pub use Rattle.world.proofs.Clauses.{acks-stay, acks-one_revision, taken-once, nothing-taken_back, taken-is_again, state-is_fold}
pub use Rattle.world.proofs.Numbers.{bytes_turned, window_of-with_taken}
pub use Rattle.world.proofs.Answered.{by_found, number_again}
pub use Rattle.world.proofs.Further.{run-append}
