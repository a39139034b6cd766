pub mod Closings
pub mod NodePlaces
pub mod ClosedModes
pub mod View
pub mod LoneSideMoves
