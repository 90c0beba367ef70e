pub mod Scalar
pub mod Kind
pub mod Map
pub mod Held
pub mod Attributes
pub mod Laws
pub mod Place
pub mod Table
pub mod TableLaws
mod Examples
