pub mod Comparison
pub mod Keys
pub mod Measures
pub mod Mentions
pub mod NormalTerms
pub mod Order
pub mod TermKeys
pub mod View
