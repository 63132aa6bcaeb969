pub mod Bounds
pub mod Quantities
