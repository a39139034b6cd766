pub mod Pools
pub mod Given
pub mod Apart
