pub mod Checking
pub mod Filled
pub mod Matching
