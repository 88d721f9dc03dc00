pub mod Made
pub mod Packing
pub mod Alike
