pub mod Composes
pub mod Places
pub mod Composed
pub mod Inverse
pub mod Cuts
pub mod Many
pub mod Whole
pub mod Outcome
pub mod Laws
pub mod steps
mod Examples
