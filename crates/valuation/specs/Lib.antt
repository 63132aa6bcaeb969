pub mod Valued
pub mod Valuation
