-- Laws of `laws`, as the proofs of other crates cite them.
pub use Rattle.hub_desk.proofs.Acknowledged.{all_stand, found_through, told_through}
pub use Rattle.hub_desk.proofs.Placing.{placed_stands, again_held}
