pub mod Putting
pub mod TextsAgain
pub mod Utf8
mod Named
mod Passing
mod Readable
mod Lookups
mod Places
mod Members
mod Equations
mod FactTexts
mod Points
mod FileTexts
mod Nodes
mod KnownNodes
mod Deciding
mod WrittenFiles
pub mod Small
pub use Rattle.search.proofs.Alike
pub use Rattle.search.proofs.Interfaces
