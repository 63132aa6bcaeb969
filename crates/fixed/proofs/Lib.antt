pub mod Filtered
pub mod Fronts
