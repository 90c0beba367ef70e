-- Laws of `laws`, and lemmas that several crates share, as the proofs of other crates cite them.
pub use Rattle.recovery.proofs.FoundOnce.{found_once}
pub use Rattle.recovery.proofs.Runs.{found_open, found_as, found_again}
pub use Rattle.recovery.proofs.Fitting.{one_fits}
pub use Rattle.recovery.proofs.Going.{open_unchanged, found_now, goes_call, goes_none, goes_still, goes_map, goes_on}
pub use Rattle.recovery.proofs.EmptyStores.{nothing_done}
pub use Rattle.recovery.proofs.Folds.{commands-append, commands_of-push}
pub use Rattle.recovery.proofs.Together.{on_ok}
