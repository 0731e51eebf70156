-- What a reader must believe of the token bucket engine's table.
pub mod Table
pub mod Laws
