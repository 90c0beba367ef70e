-- Laws of `laws`, and lemmas that several crates share, as the proofs of other crates cite them.
pub use Rattle.published.proofs.Beginnings.{prefix_self, prefix_trans, prefix_shorter, prefix_whole}
pub use Rattle.published.proofs.Orders.{legal_more, begun_grows, takens_long, takens_begin, grow_first}
pub use Rattle.published.proofs.Timed.{moments_more, moments_long, moments_first, moments_last, committed_state, committed_moment}
