pub mod Gathered
pub mod Sizes
