pub mod InputTexts
