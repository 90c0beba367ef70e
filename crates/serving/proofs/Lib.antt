mod Answering
mod Cutting
mod OfLines
pub mod CallerLemmas
