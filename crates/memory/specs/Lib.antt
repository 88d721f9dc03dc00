pub mod Flags
pub mod Waits
