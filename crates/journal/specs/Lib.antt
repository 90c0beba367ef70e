pub mod Area
pub mod Record
pub mod Scan
pub mod Spelling
pub mod DeltaSpelling
pub mod BatchSpelling
pub mod steps
pub mod Refusals
mod DeltaExamples
