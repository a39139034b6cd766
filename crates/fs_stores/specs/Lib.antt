pub mod Values
pub mod Reads
pub mod Operations
pub mod Changes
pub mod InputValues
pub mod EntryLists
