-- The laws of the numbers that a host receives.
pub mod Laws
