pub mod FactLines
pub mod LostLines
pub mod PointTexts
pub mod View
