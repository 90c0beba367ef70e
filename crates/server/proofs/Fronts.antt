-- Prefixes of a text that are written.
pub use Rattle.session.proofs.CallerLemmas.{front-longer, front-of, front-behind, on_err}
pub use Rattle.std.proofs.KnownBytes.{Appends-kept as appends-kept}
