pub mod Steps
pub mod Results
pub mod Keyed
pub mod Targets
pub mod Ways
