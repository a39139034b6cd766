mod Outputs
mod Places
mod NodesSplit
