pub mod ExpressionOperators
pub mod Inside
pub mod Hosts
