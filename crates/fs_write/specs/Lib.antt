pub mod CommentLines
pub mod NeededFormats
pub mod Canonical
pub mod Spellable
pub mod CanonicalLines
pub mod Bare
