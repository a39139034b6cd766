pub mod Interfaces
pub mod SidedVariables
pub mod View
pub mod Positions
pub mod InterfaceRefusals
pub mod PairedOutputs
pub mod Partners
pub mod Paired
