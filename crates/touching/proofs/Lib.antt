pub mod Searches
pub mod Named
