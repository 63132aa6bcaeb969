pub mod Totals
pub mod Rises
pub mod Telling
