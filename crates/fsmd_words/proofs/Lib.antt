mod Chained
mod CommandWalks
mod Limits
pub mod Matches
pub mod Named
mod Numbers
mod OtherSteps
pub mod Plain
mod PlainChain
