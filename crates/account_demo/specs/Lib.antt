pub mod Client
pub mod Named
