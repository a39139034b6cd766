pub mod Readings
pub mod Steps
pub mod Places
pub mod Spellings
