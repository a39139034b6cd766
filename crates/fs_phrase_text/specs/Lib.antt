pub mod Declarations
pub mod Expressions
pub mod Declaring
