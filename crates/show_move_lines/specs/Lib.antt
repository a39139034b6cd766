pub mod MoveReplays
pub mod MoveLines
pub mod MoveLaws
pub mod View
