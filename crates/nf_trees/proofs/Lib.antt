pub mod Capped
pub mod Compared
pub mod Degrees
pub mod Loops
pub mod TreeParts
