-- What is kept from event to event, so that the laws follow. What the laws say stands in the files beside this folder.
pub mod Showing
pub mod Placing
pub mod Holding
