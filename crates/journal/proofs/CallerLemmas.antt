-- Laws of `laws`, and lemmas that several crates share, as the proofs of other crates cite them.
pub use Rattle.journal.proofs.Batches.{one_spelling}
pub use Rattle.journal.proofs.Records.{one_list}
pub use Rattle.journal.proofs.ReadDeltas.{delta-append_same}
pub use Rattle.journal.proofs.Fields.{one_text_spelling, one_number32_spelling, one_number64_spelling}
-- and how many bytes a delta takes
pub use Rattle.journal.proofs.DeltaWidths.{length-delta}
pub use Rattle.journal.proofs.ReadPairs.{from_T, lower, less}
pub use Rattle.journal.proofs.Areas.{length-frame}
pub use Rattle.journal.proofs.Widths.{length-text16, length-number32, length-number64}
pub use Rattle.journal.proofs.Texts.{is_name_ascii, is_name_byte_ascii, is_utf8-is_name, is_name-short}
pub use Rattle.journal.proofs.Counting.{failed_sync}
