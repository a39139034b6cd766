pub mod Walks
pub mod Closers
pub mod Complete
pub mod Reached
pub mod Sound
pub mod Beginning
pub mod Once
pub mod Tallies
pub mod Depths
pub mod Excess
pub mod Strangers
pub mod Exact
pub mod Texts
pub mod OperatorCounts
pub mod WellFormed
pub mod Laid
pub mod Numbers
pub mod Programs
pub mod StateNames
pub mod WellFormedParts
mod Joined
pub mod Fits
mod Names
