pub mod Beginnings
pub mod Holdings
pub mod Retirement
pub mod Writes
pub mod Fitting
pub mod Lasting
pub mod Keeping
pub mod CallerLemmas
