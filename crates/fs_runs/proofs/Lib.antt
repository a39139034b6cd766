pub mod Steps
pub mod Turns
pub mod Outs
pub mod RunOnce
