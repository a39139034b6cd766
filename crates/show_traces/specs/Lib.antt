pub mod Traces
pub mod Stepping
pub mod TraceLaws
