pub mod JsonParts
pub mod PartAnswers
pub mod FactReading
pub mod View
pub mod Within
