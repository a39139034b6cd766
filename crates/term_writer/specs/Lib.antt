pub mod WrittenTerms
pub mod Direct
pub mod NamedSymbols
