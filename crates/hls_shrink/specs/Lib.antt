pub mod ChainStops
pub mod Chains
pub mod InputEntries
pub mod Given
pub mod Growth
pub mod ReductionLaws
pub mod Reductions
pub mod Shrunk
