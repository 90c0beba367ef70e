-- The laws of specs/Laws.antt, and lemmas that several crates share, as the proofs of other crates cite them.
pub use Rattle.disk.proofs.Contents.{leaves_seen, synced_leaves, length_overwritten, take_overwritten, drop_overwritten, byte_overwritten, overwritten_same_outside, same_at, same_outside_wider, same_outside_then, range_before, covered_by}
pub use Rattle.disk.proofs.Moments.{begins, begins_anywhere, goes_on_write, goes_on_first_write, goes_on_sync, goes_on_run, leaves_map, leaves_since}
pub use Rattle.disk.proofs.Apart.{left_by_writes, left_mixed, left_apart, apart_synced, apart_still, same_elsewhere}
pub use Rattle.disk.proofs.Costing.{costs_write, costs_sync, one_told}
