pub mod Entries
pub mod Cell
pub mod Shown
pub mod Found
pub mod Running
pub mod Law
pub mod Reading
mod Examples
