pub mod Additions
pub mod Left
