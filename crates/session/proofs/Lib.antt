mod Lines
mod Whole
mod Worked
mod Alone
mod Newsworthy
pub mod Calling
mod Kept
mod Telling
pub mod Writes
pub mod Pages
mod OperationTexts
mod Runs
pub mod Replying
pub mod Feeding
pub mod Sending
pub mod CallerLemmas
mod Later
mod Shelved
pub mod Spelled
mod Turns
mod Objects
mod OneToken
mod Entries
mod Operators
mod Arrays
mod ScalarTokens
mod EditFields
mod WholeLine
