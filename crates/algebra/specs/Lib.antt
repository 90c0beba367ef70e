pub mod Words
pub mod Outcomes
pub mod Tasks
pub mod Text
pub mod Laws
mod Examples
