pub mod Dump
pub mod Deltas
pub mod Checked
pub mod Calls
pub mod Devices
