mod Limits
pub mod Named
