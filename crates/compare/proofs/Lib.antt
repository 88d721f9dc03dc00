pub mod CellsAlike
pub mod Progress
