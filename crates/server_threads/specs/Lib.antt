pub mod Answers
pub mod Served
pub mod Streams
pub mod Connections
pub mod Written
pub mod Held
pub mod Lives
mod LivesExamples
