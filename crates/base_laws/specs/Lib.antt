pub mod Digits
pub mod Division
