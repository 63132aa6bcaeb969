pub mod Routes
pub mod UnitKinds
pub mod Lemmas
