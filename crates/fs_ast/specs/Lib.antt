pub mod Shapes
pub mod StoredBranches
pub mod BuildAnswers
pub mod OpenBranches
pub mod Branches
pub use Rattle.fs_rules.specs.MachineOfParts
pub use Rattle.fs_rules.specs.Rules
pub use Rattle.fs_rules.specs.Places
