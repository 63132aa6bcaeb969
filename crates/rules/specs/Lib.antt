pub mod Closing
pub mod Fill
pub mod Least
pub mod Named
pub mod Lemmas
