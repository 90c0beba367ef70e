pub mod Maps
pub mod AtEachName
pub mod Places
mod Halving
mod Merging
pub mod Outcomes
pub mod Prefixes
pub mod CallerLemmas
