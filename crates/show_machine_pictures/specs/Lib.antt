pub mod Quotes
pub mod DotLines
pub mod Pictures
