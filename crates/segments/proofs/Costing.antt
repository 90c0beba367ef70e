-- A sync that fails while a range is unsynced.
pub use Rattle.journal.proofs.CallerLemmas.{failed_sync}
