pub mod CallerLemmas
pub mod Contents
pub mod Moments
pub mod Apart
pub mod Costing
mod Rewinding
mod Stops
pub mod Crossing
