mod QuoteReading
pub mod Over
mod Loops
