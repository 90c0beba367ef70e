-- Laws of `laws`, and lemmas that several crates share, as the proofs of other crates cite them.
pub use Rattle.milestone.proofs.Sizes.{cell_fits}
pub use Rattle.milestone.proofs.Light.{light_content}
pub use Rattle.milestone.proofs.OnePair.{one_pair}
pub use Rattle.milestone.proofs.Holding.{agree_within}
pub use Rattle.milestone.proofs.Lengths.{pasts_keep_lengths}
pub use Rattle.milestone.proofs.Stepping.{ready_within}
pub use Rattle.milestone.proofs.Freeing.{holds_there}
