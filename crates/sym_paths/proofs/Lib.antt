pub mod Values
pub mod Changes
pub mod Arrivals
pub mod SameForms
pub mod Loops
pub use Rattle.fs_cut.proofs.Lifted
