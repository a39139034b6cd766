pub mod Generated
pub mod Sides
