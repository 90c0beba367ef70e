pub mod Writing
pub mod Turning
pub mod Stops
pub mod Waiting
pub mod Queues
pub mod Exchanging
pub mod Counting
