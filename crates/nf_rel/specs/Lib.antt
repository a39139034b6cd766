pub mod Gcd
pub mod Literals
pub mod Bounds
pub mod NormalLiterals
pub mod View
