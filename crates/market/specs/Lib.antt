pub mod Instruments
pub mod Markets
