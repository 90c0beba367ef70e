pub mod Publishing
pub mod Reading
