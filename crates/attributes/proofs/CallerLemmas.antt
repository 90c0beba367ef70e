-- Laws of `laws`, and lemmas that several crates share, as the proofs of other crates cite them.
pub use Rattle.attributes.proofs.AtEachName.{same_attributes_map, same_changes_map, get-changed, get-composed, get-transformed, get-reverted, changed-changed, changed-transformed, changed-reverted}
pub use Rattle.attributes.proofs.Prefixes.{with_entries-all, sorted_prefix, T_both, below_last}
-- and of the tables that other crates keep in order of names
pub use Rattle.attributes.proofs.Maps.{same_name, same_name_from, same_map, get-insert, get-remove, cond_same, T_parts, less_from, equal_from}
pub use Rattle.attributes.proofs.Places.{before_more, here_at, free_at, free_end, ascending_as, ascending_if, entries-insert, entries-remove, inserted, written, insert-free, set-here, remove-here, remove-absent, drop-here, compared, read_at}
pub use Rattle.attributes.proofs.Outcomes.{OnErr-always, IfSome-map}
