mod Lists
mod WrittenParts
mod Normal
mod Exact
mod ListForms
mod Refusals
mod LiteralForms
mod Faultless
mod Sizes
mod Tallies
pub use Rattle.term_condition_text.proofs.Whole
