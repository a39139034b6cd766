pub mod NewAtoms
pub mod Tidy
pub mod Placing
pub mod Stopping
pub mod Inserting
pub mod Values
pub mod Pushing
