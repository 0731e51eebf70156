-- The laws of the token bucket engine's export.
pub mod Laws
