pub mod Answer
pub mod Described
pub mod Json
pub mod Printed
pub mod Laws
mod Examples
