pub mod Tickets
pub mod Lists
pub mod Tables
