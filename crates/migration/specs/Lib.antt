pub mod Brought
pub mod Copied
pub mod Migrated
pub mod Old
