-- Laws of `laws`, and lemmas that several crates share, as the proofs of other crates cite them.
pub use Rattle.session.proofs.Feeding.{asks-joined}
pub use Rattle.session.proofs.Calling.{calls-joined, calls-one}
pub use Rattle.session.proofs.Writes.{appends-both, take-behind, front-longer, front-of, front-behind, on_err}
pub use Rattle.session.proofs.Later.{fits_later, later_by}
pub use Rattle.session.proofs.Sending.{asked_more}
pub use Rattle.session.proofs.Lines.{text_of}
