pub mod Batches
pub mod Books
pub mod Order
pub mod Moments
