pub mod Orderly
pub mod Deciding
pub mod Certificates
pub use Rattle.search.specs.SearchOutcomes
