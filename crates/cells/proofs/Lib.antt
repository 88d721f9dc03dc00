pub mod States
pub mod SingleBits
pub mod Tables
pub mod Positions
pub mod Overlays
pub mod Frames
