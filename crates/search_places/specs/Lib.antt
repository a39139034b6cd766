pub mod NodeRecords
pub mod NodeChanges
pub mod View
pub mod Moves
