pub mod FewPositions
pub mod Outcomes
pub mod Alike
pub use Rattle.alike_searches.proofs.Interfaces
