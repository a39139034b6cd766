pub mod Keys
pub mod Found
pub mod Targets
pub mod Edges
pub mod Sides
pub mod Made
