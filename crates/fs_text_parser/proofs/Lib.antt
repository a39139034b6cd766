pub mod Placed
pub mod Declared
pub mod Steps
mod ReadParts
