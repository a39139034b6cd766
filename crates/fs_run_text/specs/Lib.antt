pub mod ContentTexts
pub mod ItemTexts
pub mod EndTexts
pub mod RunTexts
pub mod PrintingLaws
