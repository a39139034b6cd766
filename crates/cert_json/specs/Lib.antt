pub mod Lists
pub mod Objects
pub mod Refusals
pub mod Tokens
pub mod Trim
pub mod WrittenJson
pub use Rattle.cert_values.specs.JsonTexts
pub use Rattle.cert_values.specs.Shape
