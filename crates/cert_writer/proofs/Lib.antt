pub mod Plain
mod Kept
mod Members
mod Forks
pub mod Values
pub mod Files
mod Short
pub mod Lengths
