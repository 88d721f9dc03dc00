pub mod Bytes
pub mod Written
pub mod Output
pub mod Buffers
