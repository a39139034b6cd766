pub mod Comments
pub mod Compiled
pub mod Registers
pub mod Scheduled
