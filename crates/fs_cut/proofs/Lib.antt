pub mod Branches
pub mod Listed
pub mod Loops
pub mod Legs
pub mod Cutting
pub use Rattle.fs_ast.proofs.Lifted
