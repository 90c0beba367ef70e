-- What the contracts of single steps cite: for a reader of a body, beside the definitions of the subject.
pub mod Passes
pub mod Weighing
