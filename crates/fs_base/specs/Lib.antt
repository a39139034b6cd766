pub mod Outside
pub mod Stored
pub mod Memory
pub mod Sinks
pub mod Writers
