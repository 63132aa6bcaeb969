pub mod Sizes
pub mod Positions
pub mod Margins
pub mod Held
