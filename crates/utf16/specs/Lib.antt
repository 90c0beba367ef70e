pub mod Units
pub mod Begun
pub mod Laws
mod Examples
