pub mod Everywhere
pub mod Most
pub mod Asked
