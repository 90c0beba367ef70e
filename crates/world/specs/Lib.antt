pub mod Progress
pub mod Event
pub mod World
pub mod Submitting
pub mod Alike
pub mod Step
pub mod Stepping
pub mod Shown
pub mod Law
pub mod Followed
pub mod Following
pub mod Laws
pub mod steps
mod Examples
