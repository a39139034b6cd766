mod NameTables
mod Symbols
pub mod Readings
mod Told
mod Repeated
