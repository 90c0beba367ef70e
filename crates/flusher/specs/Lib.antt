pub mod Batches
pub mod Standing
pub mod Flushers
pub mod Lasting
pub mod Holding
pub mod Writing
pub mod Upkeep
pub mod Laws
