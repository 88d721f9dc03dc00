pub mod Steps
pub mod Frames
pub mod Sides
pub mod Differences
pub mod Comparing
