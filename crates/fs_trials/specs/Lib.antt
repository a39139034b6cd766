pub mod Pool
pub mod Candidates
pub mod Differences
