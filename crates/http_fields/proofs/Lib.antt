-- The laws of this crate, lowest first.
pub mod Cases
pub mod Least
pub mod Client
pub mod Renewed
pub mod Worked
pub mod Laws
