pub mod News
pub mod Shown
pub mod Published
pub mod Publishing
pub mod Stages
