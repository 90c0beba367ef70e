pub mod Element
pub mod ElementCode
pub mod Operation
pub mod Lead
pub mod Kind
pub mod Parts
pub mod Cursor
pub mod Gaps
pub mod Places
pub mod Normal
pub mod steps
pub mod Laws
pub mod GapLaws
pub mod PartLaws
pub mod Equality
mod Examples
mod EffectExamples
