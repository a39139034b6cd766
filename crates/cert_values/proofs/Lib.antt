pub mod Views
mod Counts
