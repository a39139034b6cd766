mod Again
mod Plain
mod Saturated
mod Complete
mod Sound
pub mod Depths
pub mod Whole
