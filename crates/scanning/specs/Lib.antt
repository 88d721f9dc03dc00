pub mod EnabledNames
pub mod Memories
pub mod Scans
