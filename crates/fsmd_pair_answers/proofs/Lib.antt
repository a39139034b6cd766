pub mod Alike
pub mod Behaviour
pub mod Branches
pub mod Judged
pub mod Named
pub mod Once
pub mod Ranks
mod Shown
pub mod Stopped
