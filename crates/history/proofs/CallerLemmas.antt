-- Laws of `laws`, and lemmas that several crates share, as the proofs of other crates cite them.
pub use Rattle.history.proofs.OneState.{at_most_one}
pub use Rattle.history.proofs.Recovering.{stand_is_state, showing_agree, recovers, reopens}
pub use Rattle.history.proofs.Committing.{grows_by_documents, commits}
pub use Rattle.history.proofs.Cells.{begins, begins_with, changes_cells, frees, puts, retires, covered_by_greatest, freed-of, freed-lowest, length-with_pair, pair-own, pair-other, none-open}
pub use Rattle.history.proofs.HeldCells.{held_is_cell, cells_stay}
pub use Rattle.history.proofs.ReadingOn.{reading_begins, reading_goes_on, reading_ends}
pub use Rattle.history.proofs.ReadingAll.{reading_finds, some-there}
pub use Rattle.history.proofs.Reached.{documents_reach, cells_reach, one_cell_at}
pub use Rattle.history.proofs.OneDocument.{cell-content, cell-sources, cell-past}
pub use Rattle.history.proofs.Counting.{of_document-append}
