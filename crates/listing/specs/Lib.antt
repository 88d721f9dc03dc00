pub mod Words
pub mod Families
pub mod Numbers
pub mod Lines
pub mod Each
pub mod Statements
