mod Following
mod Once
mod Tracing
