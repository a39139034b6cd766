mod Turns
pub mod FirstNames
pub mod TrimLaws
mod Members
mod ListLaws
mod Others
mod ObjectLaws
mod Opened
pub mod KeptParts
pub mod OrderedValues
mod Files
mod Digits
