pub mod Ties
pub mod TieSteps
pub mod Equations
pub mod EquationSteps
pub mod View
