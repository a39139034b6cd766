pub mod Examples
pub mod AskedWords
