pub mod Found
pub mod Given
pub mod Legal
pub mod Moves
pub mod Placed
pub mod Runs
pub mod Submitted
pub mod Waiting
