pub mod Readings
pub mod Hosted
