pub mod Ways
pub mod Slots
pub mod Tries
pub mod Valued
pub mod InputValues
pub mod Listings
