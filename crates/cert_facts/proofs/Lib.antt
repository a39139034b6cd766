mod Facts
pub mod Told
pub mod FewConditions
mod NodeParts
