pub mod CallerLemmas
pub mod Showing
pub mod Ordering
pub mod Publishing
