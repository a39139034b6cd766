pub mod BareForms
pub mod TieTurns
pub mod EquationTurns
pub mod SplitTurns
pub mod Splitting
pub mod Without
pub mod Needed
mod FirstTie
mod ConditionTurns
