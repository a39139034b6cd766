pub mod NewAtoms
pub mod Writes
pub mod Pushes
