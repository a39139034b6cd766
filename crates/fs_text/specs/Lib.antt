pub mod SourceOfText
