pub mod ByName
pub mod Changed
pub mod First
pub mod Listed
pub mod Lowered
pub mod Smalls
pub mod Unique
pub mod Stopped
