pub mod Loops
pub mod EnabledOnes
pub mod Waits
