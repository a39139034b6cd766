pub mod Noting
pub mod Tracing
pub mod Rows
pub mod ByStates
pub mod Gathered
pub mod Outcome
pub mod Copied
