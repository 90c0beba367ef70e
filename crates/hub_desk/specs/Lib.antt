pub mod AtHub
pub mod Laws
pub mod Standing
pub mod Tickets
