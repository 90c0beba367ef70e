-- What holds of a result that was refused.
pub use Rattle.attributes.proofs.CallerLemmas.{OnErr-always}
