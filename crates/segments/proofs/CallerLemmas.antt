-- The laws of specs/Laws.antt, and lemmas that several crates share, as the proofs of other crates cite them.
pub use Rattle.segments.proofs.OneTable.{one_table}
pub use Rattle.segments.proofs.Orders.{opened_bodies, appended_bodies, retired_bodies, number_there, each_of, each_inserted}
pub use Rattle.segments.proofs.Rooms.{full_ring, opened_differs}
pub use Rattle.segments.proofs.Tables.{number_held, slot_there, segment_held}
pub use Rattle.segments.proofs.Rings.{same_ring}
pub use Rattle.segments.proofs.Places.{first_byte, slot_before}
