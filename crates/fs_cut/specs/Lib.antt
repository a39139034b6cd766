pub mod PathTexts
pub mod Paths
pub mod Covers
pub mod View
pub mod Cuts
pub use Rattle.fs_ast.specs.Branches
