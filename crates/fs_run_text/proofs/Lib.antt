pub mod Listed
pub mod Once
pub mod Interfaces
pub mod Arrays
pub mod Adds
pub mod RunOnce
pub mod Serving
pub mod Told
