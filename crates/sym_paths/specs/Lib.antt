pub mod ValuationStores
pub mod Sequences
pub mod Evaluation
pub mod Execution
pub mod View
pub use Rattle.fs_cut.specs.Branches
pub use Rattle.fs_cut.specs.Paths
