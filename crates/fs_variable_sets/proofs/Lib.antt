pub mod Members
pub mod Bits
mod Grows
