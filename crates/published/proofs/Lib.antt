pub mod Beginnings
pub mod Orders
pub mod Timed
pub mod CallerLemmas
pub mod Crossing
