pub mod Naming
pub mod Places
pub mod Earliest
