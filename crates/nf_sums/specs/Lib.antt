pub mod RawSumForms
pub mod Operations
pub mod Accumulators
pub mod OrderedSums
pub mod Sameness
