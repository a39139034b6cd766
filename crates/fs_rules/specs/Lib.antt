pub mod MachineOfParts
pub mod Rules
pub mod FirstFault
pub mod Places
pub mod Uses
pub mod TargetWalks
pub mod Scopes
