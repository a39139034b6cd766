pub mod Directly
mod Integers
pub mod Bound
mod Back
mod Deep
mod Spelling
pub mod ListTexts
pub mod LiteralTexts
pub mod Plain
