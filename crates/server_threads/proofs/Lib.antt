pub mod Crossing
pub mod FlusherCrossing
mod Places
mod AtCommits
mod Answered
mod Served
mod Ended
mod Attending
mod Tallied
mod LegalOrders
mod AllLives
