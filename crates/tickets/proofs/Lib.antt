pub mod Changes
pub mod Laws
pub mod Limits
pub mod Lookups
pub mod Ordered
pub mod Replacing
pub mod Volumes
