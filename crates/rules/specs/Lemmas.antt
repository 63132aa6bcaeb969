-- Proved facts that the laws of impls cite. A ghost member may cite its own crate's specs/ alone; nothing here has to be believed.
pub mod Firsts
pub mod Tickets
pub mod Orders
