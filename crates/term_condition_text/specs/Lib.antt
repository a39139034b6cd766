pub mod ConditionTexts
pub mod ConditionParts
pub mod View
pub mod DigitNumbers
