pub mod CommandLine
pub mod SubcommandShapes
