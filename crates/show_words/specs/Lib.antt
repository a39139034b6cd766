pub mod ViewCommandLine
pub mod ViewWords
pub mod ViewExamples
