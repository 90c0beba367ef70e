pub mod CodeUnits
pub mod Bytes
pub mod Begun
pub mod Places
pub mod CallerLemmas
