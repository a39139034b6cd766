pub mod Unlined
pub mod MovedWords
pub mod MovedTokens
pub mod Gaps
pub mod Allowed
pub mod Steps
pub mod Ends
pub mod Words
pub mod Punctuation
pub mod ExpressionTexts
pub mod GuardTexts
pub mod LineTexts
pub mod WholeTexts
pub mod Again
pub mod BareTexts
mod Loops
