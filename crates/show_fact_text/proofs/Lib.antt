pub mod Loops
mod Lookups
