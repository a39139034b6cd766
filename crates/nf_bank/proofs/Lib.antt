pub mod Bounds
pub mod Fronts
pub mod Places
pub mod Growing
pub mod Nodes
pub mod Closed
pub mod Turns
mod Made
