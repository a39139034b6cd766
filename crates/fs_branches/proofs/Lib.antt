pub mod Leaves
pub mod Numbered
mod Ways
