pub mod Shown
pub mod Facts
pub mod Retold
pub mod Again
mod Lookups
