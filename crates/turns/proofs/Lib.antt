mod Fitting
mod Marks
mod Writing
mod Counting
pub mod CallerLemmas
