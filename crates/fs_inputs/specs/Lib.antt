pub mod Numbers
pub mod InputMembers
pub mod Steps
pub mod Refusals
