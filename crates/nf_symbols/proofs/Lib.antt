pub mod Passing
pub mod Agreement
pub mod Results
pub mod Writing
pub mod Substituted
pub mod Mentioned
pub mod Gathered
pub use Rattle.nf_substitution.proofs.Values
