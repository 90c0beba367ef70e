pub mod Both
pub mod After
pub mod Outcome
pub mod Place
pub mod Laws
pub mod steps
mod Examples
