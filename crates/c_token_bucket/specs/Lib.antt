-- What a reader must believe of the token bucket engine's export.
pub mod Laws
