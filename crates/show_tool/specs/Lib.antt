pub mod Views
pub mod ViewCalls
