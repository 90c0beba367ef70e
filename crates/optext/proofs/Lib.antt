pub mod Deltas
pub mod Embeds
pub mod Floats
pub mod Members
pub mod ReadBack
pub mod Spelled
mod Values
pub mod CallerLemmas
