mod Begun
mod Copies
pub mod Cut
mod Light
mod Moments
mod Refused
mod Rooms
pub mod CopiedSoFar
