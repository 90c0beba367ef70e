pub mod Acknowledged
pub mod Answering
pub mod Batches
pub mod CallerLemmas
pub mod Finding
pub mod Placing
pub mod StandsOn
pub mod Tickets
