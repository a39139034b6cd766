pub mod SameKeys
pub mod AllHold
pub mod Alone
pub use Rattle.sym_facts.proofs.StartHolds
pub use Rattle.sym_facts.proofs.StartSolved
