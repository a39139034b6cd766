pub mod NumberedParts
pub mod Forks
