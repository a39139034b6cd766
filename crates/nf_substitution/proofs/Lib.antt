pub mod Known
pub mod FirstFactors
pub mod Values
pub mod Unchanged
pub mod Following
pub use Rattle.nf_vectors.proofs.Entries
pub use Rattle.nf_vectors.proofs.LoneSymbols
