pub mod Measure
pub mod Models
pub mod Accounts
