pub mod Arrivals
pub mod RowMoves
pub mod TracedBlocks
pub mod Reports
