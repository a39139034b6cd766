pub mod Listing
pub mod Progress
pub mod VectorOutputs
pub mod View
