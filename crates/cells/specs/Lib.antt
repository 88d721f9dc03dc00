pub mod Bits
pub mod Tabulated
pub mod Cells
pub mod Overlays
pub mod Masks
pub mod Forcing
pub mod Readings
