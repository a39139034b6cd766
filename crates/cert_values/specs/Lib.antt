pub mod JsonTexts
pub mod Shape
pub mod View
