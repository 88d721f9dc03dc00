pub mod Named
pub mod EachPlace
pub mod Sharing
