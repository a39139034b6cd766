pub mod Lists
pub mod Ranks
pub mod Rounds
pub mod Lawful
