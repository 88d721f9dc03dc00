pub mod Places
pub mod Inverted
