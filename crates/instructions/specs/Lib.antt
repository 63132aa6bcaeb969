pub mod Inside
pub mod Submitted
