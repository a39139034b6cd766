mod RegisterMachines
pub mod Over
mod Effects
pub mod Lives
pub mod Looks
pub mod Variables
pub mod BoundRuns
pub mod Renamed
pub mod Formed
pub mod Lawful
pub mod Twice
pub mod Names
pub mod Whole
pub mod Listed
pub mod Alive
pub mod Losses
pub mod Given
pub mod Loops
pub mod Yes
pub mod Ordered
pub mod Apart
pub mod Filled
